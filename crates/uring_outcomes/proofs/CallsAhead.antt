-- A call that is accepted before another move is made: the move can be made as well, and leads to the same, if no cancel names an entry of the call.
use Rattle.std.proofs.Common.{◌≡◌, ℕ, zero, suc, ◌<◌, ◌≤◌, ℤ, Bool, true, false, not, ◌&&◌, nat_lt, List, [], ◌∷◌, ◌++◌, length, Option, Some, if◌then◌else◌, refl, sym, ap, ap₂, ◌∙◌, inl, inr, arith, append-nil}
use Rattle.uring_outcomes.proofs.Common.{AreUnnamed, Moment, Requests, Sqe, addr_of, and_parts, both_ways, cancel_result, cases_lt, chosen_by, cond-false, cond-true, doom_kept, ended_at_once, entry_kept, entry_of, false_from_ne_true, finished, get_or-append_right, is_cancel, is_candidate, is_doomed, is_finishable, is_running, is_target, issued, least_below_same, length-append, longer, lt-ltb, ltb-true, moved, target_of, targets_of, with_call}
use Rattle.uring_laws.proofs.Growth.{IsCut}
use Rattle.uring_entry.specs.Below.{least_below, all_below, found_or}
use Rattle.uring_outcomes.specs.declared.move_of_calls.Move.TheVariants as move
use Rattle.uring_laws.proofs.AlikeRequests.{all_below_same}
use Rattle.uring_laws.proofs.CalledRequests.{outstanding_kept, ready_kept}
use Rattle.uring_outcomes.proofs.MovesLead.{can_of, can_then}

-- Bounds that go further, over numbers at which a test fails.

none_more : (o : Option ℕ) (n : ℕ) → found_or o false n ≡ o
none_more o n = grind arith

least_between : (p : ℕ → Bool) (n m : ℕ) → n ≤ m → ((k : ℕ) → n ≤ k → k < m → p k ≡ false)
    → least_below p m ≡ least_below p n
least_between p n zero le h = let same : 0 ≡ n = omega arith in ap (least_below p) same
least_between p n (suc m) le h =
    elim (cases_lt n (suc m)) [
      | inl low ↦
          ap₂ (λ o b. found_or o b m) (least_between p n m (omega arith) (λ k a b. h k a (omega arith))) (h m (omega arith) (omega arith))
          ∙ none_more (least_below p n) m
      | inr high ↦ let same : suc m ≡ n = omega arith in ap (least_below p) same
    ]

all_between : (p : ℕ → Bool) (n m : ℕ) → n ≤ m → ((k : ℕ) → n ≤ k → k < m → p k ≡ false)
    → all_below p m ≡ all_below p n
all_between p n zero le h = let same : 0 ≡ n = omega arith in ap (all_below p) same
all_between p n (suc m) le h =
    elim (cases_lt n (suc m)) [
      | inl low ↦
          ap₂ (λ xs b. xs ++ (if b then m ∷ [] else [])) (all_between p n m (omega arith) (λ k a b. h k a (omega arith))) (h m (omega arith) (omega arith))
          ∙ append-nil (all_below p n)
      | inr high ↦ let same : suc m ≡ n = omega arith in ap (all_below p) same
    ]

-- What a call leaves as it was.

module _ (named : ℕ → Bool) (r : Requests) (call : List Sqe) (cut : IsCut r) (unnamed : AreUnnamed named call) where
  candidate_kept : (n k : ℕ) → n < length r.accepted → k < length r.accepted
      → is_candidate (with_call r call) n k ≡ is_candidate r n k
  candidate_kept n k low less = grind (arith, outstanding_kept, entry_kept, doom_kept)

  -- a cancel chooses none of the call's
  none_there : (n k : ℕ) → named (addr_of (entry_of r n)) ≡ true → n < length r.accepted
      → length r.accepted ≤ k → k < length (with_call r call).accepted
      → is_candidate (with_call r call) n k ≡ false
  none_there n k names low high within =
      grind (arith, false_from_ne_true, both_ways, get_or-append_right, length-append, entry_kept)

  target_kept : (n : ℕ) → named (addr_of (entry_of r n)) ≡ true → n < length r.accepted
      → target_of (with_call r call) n ≡ target_of r n
  unfolding target_of
  target_kept n names low =
      least_between (is_candidate (with_call r call) n) (length r.accepted) (length (with_call r call).accepted) (longer r call cut) (λ k high within. none_there n k names low high within)
      ∙ least_below_same (is_candidate (with_call r call) n) (is_candidate r n) (length r.accepted) (λ k less. candidate_kept n k low less)

  targets_kept : (n : ℕ) → named (addr_of (entry_of r n)) ≡ true → n < length r.accepted
      → targets_of (with_call r call) n ≡ targets_of r n
  unfolding targets_of
  targets_kept n names low =
      all_between (is_target (with_call r call) n) (length r.accepted) (length (with_call r call).accepted) (longer r call cut) (λ k high within. ap (λ b. b && not (is_running r k)) (none_there n k names low high within))
      ∙ all_below_same (is_target (with_call r call) n) (is_target r n) (length r.accepted) (λ k less. ap (λ b. b && not (is_running r k)) (candidate_kept n k low less))

  pub result_kept : (n : ℕ) → named (addr_of (entry_of r n)) ≡ true → n < length r.accepted
      → cancel_result (with_call r call) n ≡ cancel_result r n
  result_kept n names low = grind (arith, entry_kept, targets_kept, target_kept)

  chosen_kept : (n : ℕ) (res : ℤ) → (is_cancel (entry_of r n) ≡ true → named (addr_of (entry_of r n)) ≡ true)
      → n < length r.accepted → chosen_by (with_call r call) n res ≡ chosen_by r n res
  chosen_kept n res names low = grind (arith, entry_kept, targets_kept, target_kept)

-- A move after the call.

-- the moment once this call is accepted, and these are left
abbrev pub called : Moment → List Sqe → List (List Sqe) → Moment
called m call later = record m { requests = with_call m.requests call; left = later }

module _ (named : ℕ → Bool) (m : Moment) (call : List Sqe) (later : List (List Sqe)) (cut : IsCut m.requests) (unnamed : AreUnnamed named call) where
  ended_after : (n : ℕ) (res : ℤ) → (is_cancel (entry_of m.requests n) ≡ true → named (addr_of (entry_of m.requests n)) ≡ true)
      → n < length m.requests.accepted
      → ended_at_once (called m call later) n res ≡ called (ended_at_once m n res) call later
  ended_after n res names low =
      grind (arith, (chosen_kept named m.requests call cut unnamed n res names low), (entry_kept m.requests call cut n low))

  finished_after : (n : ℕ) → n < length m.requests.accepted
      → finished (called m call later) n ≡ called (finished m n) call later
  finished_after n low = grind (arith, entry_kept)

  issued_after : (n : ℕ) → (is_cancel (entry_of m.requests n) ≡ true → named (addr_of (entry_of m.requests n)) ≡ true)
      → n < length m.requests.accepted
      → issued (called m call later) n ≡ called (issued m n) call later
  issued_after n names low = by_doom (is_doomed m.requests n) refl where
    r : Requests
    r = m.requests

    q : Requests
    q = with_call m.requests call

    entry : entry_of q n ≡ entry_of r n
    entry = entry_kept r call cut n low

    doom : is_doomed q n ≡ is_doomed r n
    doom = doom_kept r call cut n low

    back : (x : Moment) → issued m n ≡ x → called x call later ≡ called (issued m n) call later
    back x is = ap (λ y. called y call later) (sym is)

    by_cancel : (cancels : Bool) → is_cancel (entry_of r n) ≡ cancels → is_doomed r n ≡ false → issued (called m call later) n ≡ called (issued m n) call later
    by_cancel true is spared =
        cond-false (is_doomed q n) _ _ (doom ∙ spared)
        ∙ cond-true (is_cancel (entry_of q n)) _ _ (ap is_cancel entry ∙ is)
        ∙ ap (ended_at_once (called m call later) n) (result_kept named r call cut unnamed n (names is) low)
        ∙ ended_after n (cancel_result r n) names low
        ∙ back (ended_at_once m n (cancel_result r n)) (cond-false (is_doomed r n) _ _ spared ∙ cond-true (is_cancel (entry_of r n)) _ _ is)
    by_cancel false is spared = grind (arith, doom, entry)

    by_doom : (doomed : Bool) → is_doomed r n ≡ doomed → issued (called m call later) n ≡ called (issued m n) call later
    by_doom true is = grind (arith, cond-true, doom, entry, ended_after)
    by_doom false is = by_cancel (is_cancel (entry_of r n)) refl is

  pub issue_after : (n : ℕ) (next : Moment) → (is_cancel (entry_of m.requests n) ≡ true → named (addr_of (entry_of m.requests n)) ≡ true)
      → moved m (move.Issue n) ≡ Some next
      → moved (called m call later) (move.Issue n) ≡ Some (called next call later)
  issue_after n next names e = grind (arith, can_of, ltb-true, outstanding_kept, doom_kept, ready_kept, can_then, issued_after)

  pub finish_after : (n : ℕ) (next : Moment) → moved m (move.Finish n) ≡ Some next
      → moved (called m call later) (move.Finish n) ≡ Some (called next call later)
  finish_after n next e =
      let r : Requests = m.requests in
      let q : Requests = with_call m.requests call in
      let c = can_of (is_finishable r n) (finished m n) next e in
      let p = and_parts (nat_lt n (length r.accepted)) (is_running r n) c.0 in
      let low : n < length r.accepted = ltb-true n (length r.accepted) p.0 in
      let l = longer r call cut in
      let can : is_finishable q n ≡ true = ap (λ b. b && is_running r n) (lt-ltb n (length q.accepted) (omega arith)) ∙ p.1 in
      can_then (is_finishable q n) (finished (called m call later) n) (called next call later) can (finished_after n low ∙ ap (λ y. called y call later) c.1)
