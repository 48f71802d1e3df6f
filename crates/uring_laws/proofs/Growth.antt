-- What stays of the requests as a history goes on, by either's rules: those accepted by then keep their entries and groups, and those that are doomed by the manual pages' rules stay so.
-- By `Move`, event by event (`event_grows`), and over a history by induction (`grows`).
-- Stable: other crates may import `Grows` with its fields, as `same_entry`, and `event_grows`, `grows`, `lawful_before`.
use Rattle.std.proofs.Common.{◌≡◌, ℕ, ◌<◌, ◌≤◌, ℤ, Bool, true, false, List, [], ◌∷◌, ◌++◌, length, refl, ◌⊎◌, inl, inr, arith, rules}
use Rattle.uring_laws.proofs.Common.{Answer, History, IsChoice, IsLawfulApart, LinuxRequests, Move, Requests, Setup, Step, accepts, choice_of, doom_kept, end_doom, ended_as, ends_cancel, ends_run, entry_kept, entry_of, is_cancelled, is_doomed, is_doomed_started, is_draining, is_draining_started, is_joined, is_joined_started, join_kept, list_any, longer, member_kept, move_of, no_choice, requests_of, some_member, sound_of, starts, world}
use Rattle.uring_core.proofs.Moves.{stays, ends_doomed}
use Rattle.uring_rules.specs.Rules.{doomed_result, cancel_result, with_issued_end}
use Rattle.std.proofs.Common.{◌==◌}

-- of the requests accepted by then, the entries and the groups stay, and the doomed stay doomed by the manual pages' rules
pub record Grows (r later : Requests) : Type 0 where
  pub longer_then : length r.accepted ≤ length later.accepted
  pub same_entry : (n : ℕ) → n < length r.accepted → entry_of later n ≡ entry_of r n
  pub same_group : (m n : ℕ) → n < length r.accepted → is_joined later m n ≡ is_joined r m n
  pub same_drain : (n : ℕ) → n < length r.accepted → is_draining later n ≡ is_draining r n
  pub stays_cancelled : (n : ℕ) → is_cancelled r n ≡ true → is_cancelled later n ≡ true
  pub stays_doomed : (n : ℕ) → n < length r.accepted → is_doomed r n ≡ true
      → is_doomed later n ≡ true

pub then_grows : (r later last : Requests) → Grows r later → Grows later last → Grows r last
then_grows r later last a b = grind arith

end_grows : (r : Requests) (n : ℕ) (res : ℤ) (bytes cancelled : List ℕ) → IsChoice r n cancelled
    → Grows r (ended_as r n res bytes cancelled)
unfolding some_member is_joined
end_grows r n res bytes cancelled choice = grind (arith, end_doom)

-- a call ended with the last entry
abbrev pub IsCut : Requests → Type 0
IsCut r = (length r.accepted ≡ 0) ⊎ (list_any (λ c. c == length r.accepted) r.cuts ≡ true)

issued_grows : (linux : Bool) (r : Requests) (n : ℕ) (res : ℤ)
    → (res ≡ doomed_result linux r n) ⊎ (res ≡ cancel_result linux r n) → Grows r (with_issued_end linux r n res)
issued_grows true r n res how = end_grows r n _ _ r.cancelled (no_choice r n)
issued_grows false r n res how = end_grows r n _ _ _ (choice_of r n res how)

move_grows : (linux : Bool) (l : LinuxRequests) (s : Step) (a : Answer) (later : Requests)
    → Move linux l s a later → IsCut l.requests → Grows l.requests later
move_grows linux l s a later (stays _ _ no_start no_end) cut = search (rules, arith)
move_grows linux l s a later (accepts accepted missed head entries) cut = search (rules, longer, entry_kept, join_kept, member_kept, doom_kept, cut)
move_grows linux l s a later (starts n outstanding idle spared ready no_cancel) cut =
    search (rules, is_joined_started, is_draining_started, is_doomed_started)
move_grows linux l s a later (ends_doomed n outstanding) cut = issued_grows linux l.requests n _ (inl refl)
move_grows linux l s a later (ends_cancel n outstanding spared ready cancel) cut = issued_grows linux l.requests n _ (inr refl)
move_grows linux l s a later (ends_run n res bytes running) cut = search (rules, end_grows, no_choice)

pub event_grows : (g : Setup) (s : Step) (a : Answer) (before : History)
    → IsLawfulApart g ((s, a) ∷ before)
    → Grows (world g before).requests (world g ((s, a) ∷ before)).requests
event_grows g s a before lawful = move_grows g.linux (requests_of (world g before)) s a _ (move_of g s a before lawful) (sound_of g before lawful.1).requests.cut_at_end

pub grows : (g : Setup) (after before : History) → IsLawfulApart g (after ++ before)
    → Grows (world g before).requests (world g (after ++ before)).requests
grows g [] before lawful = search (rules, arith)
grows g ((s, a) ∷ after) before lawful = search (rules, then_grows, (grows g after before lawful.1), event_grows)

-- what a history is made of is lawful
pub lawful_before : (g : Setup) (after before : History) → IsLawfulApart g (after ++ before)
    → IsLawfulApart g before
lawful_before g [] before lawful = lawful
lawful_before g ((s, a) ∷ after) before lawful = lawful_before g after before lawful.1
