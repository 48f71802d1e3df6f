-- What the definitions say of a member, from its group.
use Rattle.std.proofs.Common.{◌≡◌, ℕ, ◌-◌, ◌<◌, ◌≤◌, length, Bool, false, not, ◌&&◌, leb, Option, Some, None, is_some, refl, sym, ◌∙◌, ap, arith, inl, inr}
use Rattle.uring_linux.proofs.Common.{IsGroup, Requests, and-true, and_left, and_right, cases_lt, faulty_member_of, first_broken, first_member, first_of, has_ended, has_fault, if_before, in_group_member, is_before, is_in_faulty_group, is_in_group, is_in_turn, is_joined, is_joined_yes, is_last, is_some_least_below, joined_member, keeps_back, le-ltb, least_below, least_below_none, least_below_out, least_below_same, least_below_some, least_below_tells, lt-ltb}
use Rattle.uring_entry.specs.Why.{failed_member_of}
use Rattle.uring_entry.proofs.WhyLemmas.{failed_member_before, failed_member_none}

-- it is a request's turn if nobody keeps it back
pub turn_is : (r : Requests) (n : ℕ) → is_in_turn r n ≡ not (is_some (least_below (keeps_back r n) n))
unfolding is_in_turn
turn_is r n = ap not (sym (is_some_least_below (keeps_back r n) n))

-- a search that begins later, after numbers at which the test fails
pub first_member_later : (p : ℕ → Bool) (from later n : ℕ) → from ≤ later
    → ((k : ℕ) → from ≤ k → k < later → p k ≡ false)
    → first_member p later n ≡ first_member p from n
unfolding first_member
first_member_later p from later n le fails = grind arith

-- whoever stands right after a member that hasn't ended isn't in turn
pub not_in_turn : (r : Requests) (n : ℕ) → 0 < n → is_last r (n - 1) ≡ false → has_ended r (n - 1) ≡ false
    → is_in_turn r n ≡ false
unfolding is_in_turn
not_in_turn r n some amid going = grind (arith, is_joined_yes)

-- a bound that goes further, over numbers at which the test fails
least_below_between : (p : ℕ → Bool) (n m : ℕ) → n ≤ m → ((k : ℕ) → n ≤ k → k < m → p k ≡ false)
    → least_below p m ≡ least_below p n
least_below_between p n m le h = go (least_below p n) refl
  where
    go : (o : Option ℕ) → least_below p n ≡ o → least_below p m ≡ o
    go None e = least_below_none p m (λ k lt. elim (cases_lt k n) [ inl low ↦ least_below_out p n e k low | inr high ↦ h k high lt ])
    go (Some k) e =
        let least = least_below_tells p n k e in
        least_below_some p m k (omega (arith, least.below)) least.holds least.before

-- the first member with a fault
pub faulty_member_is : (r : Requests) (from end n : ℕ) → IsGroup r from end → from ≤ n → n < end
    → first_member (has_fault r) from end ≡ faulty_member_of r n
unfolding first_member
faulty_member_is r from end n g high lt =
    sym
    (least_below_between (λ m. is_in_group r m n && has_fault r m) end (length r.accepted) g.accepted
    (λ m past within. and_left _ _ (in_group_member r from end n m g high lt within ∙ and_right _ _ (le-ltb m end past)))
    ∙ least_below_same (λ m. is_in_group r m n && has_fault r m) (λ m. leb from m && has_fault r m) end
    (λ m inside.
    let f = g.accepted in
    ap (λ b. b && has_fault r m)
    (in_group_member r from end n m g high lt (omega arith) ∙ ap (λ b. leb from m && b) (lt-ltb m end inside) ∙ and-true (leb from m))))

pub faulty_is : (r : Requests) (from end n : ℕ) → IsGroup r from end → from ≤ n → n < end
    → is_in_faulty_group r n ≡ is_some (first_member (has_fault r) from end)
unfolding is_in_faulty_group
faulty_is r from end n g high lt =
    sym (is_some_least_below (λ m. is_in_group r m n && has_fault r m) (length r.accepted)) ∙ ap is_some (sym (faulty_member_is r from end n g high lt))

pub first_is : (r : Requests) (from end n : ℕ) → IsGroup r from end → from ≤ n → n < end
    → first_of r n ≡ if_before (Some from) n
unfolding first_of
first_is r from end n g high lt =
    let joined : (j : ℕ) → j ≤ n → is_joined r j n ≡ leb from j = λ j le. joined_member r from end j n g high lt le in
    grind (arith, joined, (cases_lt from n), (least_below_some (λ m. is_joined r m n) n from), (least_below_none (λ m. is_joined r m n) n))

pub failed_is : (r : Requests) (from end n : ℕ) → IsGroup r from end → from ≤ n → n < end
    → failed_member_of r n ≡ if_before (first_broken r from end) n
failed_is r from end n g high lt = go (first_broken r from end) refl
  where
    go : (o : Option ℕ) → first_broken r from end ≡ o → failed_member_of r n ≡ if_before o n
    go None e = failed_member_none r from end n g high lt (ap (λ o. is_before o n) e)
    go (Some m) e = grind (arith, (cases_lt m n), (failed_member_before r from end n m g high lt e), (failed_member_none r from end n g high lt))
