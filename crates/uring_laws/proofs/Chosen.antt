-- Whom cancels chose, read off a history, by the manual pages' rules.
use Rattle.std.proofs.Common.{◌≡◌, ℕ, ◌==◌, ℤ, true, false, List, [], ◌∷◌, ◌++◌, cond, refl, ◌⊎◌, inl, inr, arith}
use Rattle.uring_laws.proofs.Common.{Answer, Chose, History, IsChosenIn, IsLawfulApart, Move, Requests, Setup, Step, all_success, any_both, by_manual, cancel_result, chose, chosen_by, doomed_fails, ends_cancel, is_cancelled, move_of, no_bytes, or_left, or_right, outstanding_tells, requests_of, target_there, with_issued_end, world}
use Rattle.uring_core.proofs.Moves.{ends_doomed}
use Rattle.std.proofs.lemmas.List.Folds.{list_any-append}
use Rattle.uring_core.specs.declared.step.Step.TheVariants as step
use Rattle.uring_core.specs.declared.answer.Answer.TheVariants as answer
use Rattle.uring_laws.proofs.Growth.{event_grows}

-- where a request is newly chosen, the event is the end of a cancel
new_cancel : (g : Setup) (h : History) (s : Step) (a : Answer) (later : Requests) → Move false (requests_of (world (by_manual g) h)) s a later
    → (m : ℕ) → is_cancelled later m ≡ true
    → (is_cancelled (world (by_manual g) h).requests m ≡ true) ⊎ IsChosenIn (by_manual g) ((s, a) ∷ h) m
new_cancel g h s a later (ends_doomed n outstanding) m gone = grind (arith, any_both, doomed_fails)
new_cancel g h s a later (ends_cancel n outstanding spared ready cancel) m gone =
    let r : Requests = (world (by_manual g) h).requests in
    let res : ℤ = cancel_result r n in
    elim (any_both (λ k. k == m) r.cancelled (chosen_by r n res) gone) [
      | inl old ↦ inl old
      | inr new ↦ inr (record { after = []; before = h; number = n; res = res; bytes = no_bytes; split = refl; chose = (chose r n res m new).1 })
    ]
new_cancel g h s a later _ m gone = inl gone

pub chosen_in : (g : Setup) (h : History) → IsLawfulApart (by_manual g) h → (m : ℕ)
    → is_cancelled (world (by_manual g) h).requests m ≡ true → IsChosenIn (by_manual g) h m
chosen_in g [] lawful m gone = absurd (let f : false ≡ true = gone in cc)
chosen_in g ((s, a) ∷ before) lawful m gone =
    elim (new_cancel g before s a _ (move_of (by_manual g) s a before lawful) m gone) [
      | inl old ↦
          let c = chosen_in g before lawful.1 m old in
          record { after = (s, a) ∷ c.after; before = c.before; number = c.number; res = c.res; bytes = c.bytes; split = rw c.split; chose = c.chose }
      | inr new ↦ new
    ]

dooms_now : (r : Requests) (n : ℕ) (res : ℤ) (m : ℕ) → Chose r n res m
    → is_cancelled (with_issued_end r n res) m ≡ true
dooms_now r n res m h = grind (arith, cond, or_left, outstanding_tells, all_success, target_there, list_any-append, or_right)

stays_chosen : (g : Setup) (after before : History) (n : ℕ) (res : ℤ) (m : ℕ) (bytes : List ℕ)
    → IsLawfulApart (by_manual g) (after ++ (step.Issue n, answer.Ended res bytes) ∷ before)
    → Chose (world (by_manual g) before).requests n res m
    → is_cancelled (world (by_manual g) (after ++ (step.Issue n, answer.Ended res bytes) ∷ before)).requests m
    ≡ true
stays_chosen g [] before n res m bytes lawful chose = grind (arith, dooms_now)
stays_chosen g ((s, a) ∷ after) before n res m bytes lawful chose = (event_grows (by_manual g) s a _ lawful).stays_cancelled m (stays_chosen g after before n res m bytes lawful.1 chose)

pub chosen_stays : (g : Setup) (h : History) → IsLawfulApart (by_manual g) h → (m : ℕ) → IsChosenIn (by_manual g) h m
    → is_cancelled (world (by_manual g) h).requests m ≡ true
chosen_stays g h lawful m c = grind (arith, stays_chosen)
