-- What is doomed, drains and is ready, from what is known of its group: no more is needed of the members that have ended.
use Rattle.std.proofs.Common.{◌≡◌, ℕ, zero, suc, ◌-◌, ◌<◌, ◌≤◌, min, max, length, Bool, true, false, ◌&&◌, ◌||◌, leb, ltb, Option, Some, None, is_some, ◌∙◌, arith}
use Rattle.uring_entry.proofs.Common.{IsGroup, Requests, Sqe, cases_eq, cases_lt, entry_of, first_broken, first_drain, first_fault, first_member, has_ended, has_failed, if◌then◌else◌, is_after_failure, is_before, is_cancelled, is_doomed, is_drain, is_draining, is_faulty, is_in_faulty_group, is_in_group, is_joined, is_ready, is_soft, least_below, some_member}
use Rattle.uring_entry.specs.Why.{failed_member_of, is_failure_before}
use Rattle.uring_entry.proofs.BelowLemmas.{least_below_between, least_below_same, least_below_tells, is_some_least_below, least_below_low}
use Rattle.uring_entry.proofs.RequestLemmas.{is_joined_yes, is_joined_no, is_ready_yes, is_ready_no}

-- Who is a member.

-- an earlier request is in a member's group if it isn't before the first member
pub joined_member : (r : Requests) (from end m n : ℕ) → IsGroup r from end → from ≤ n → n < end
    → m ≤ n → is_joined r m n ≡ leb from m
joined_member r from end m n g high lt le = grind (arith, (cases_lt m from), (is_joined_no r m n (from - 1)), (g.begins (from - 1)), is_joined_yes)

-- a later one if it is before the end
pub in_group_member : (r : Requests) (from end n m : ℕ) → IsGroup r from end → from ≤ n → n < end
    → m < length r.accepted → is_in_group r m n ≡ (leb from m && ltb m end)
in_group_member r from end n m g high lt within =
    grind (arith, (min m n), (max m n), (joined_member r from end m n g high lt), (cases_lt m end), is_joined_yes, (is_joined_no r n m (end - 1)), (g.ends (end - 1)))

-- Whether some member has a property.

-- the least member that has it
pub least_member_is : (r : Requests) (p : Sqe → Bool) (from end n : ℕ) → IsGroup r from end
    → from ≤ n → n < end
    → least_below (λ m. is_in_group r m n && p (entry_of r m)) (length r.accepted) ≡ first_member (λ m. p (entry_of r m)) from end
unfolding first_member
least_member_is r p from end n g high lt =
    least_below_between _ end (length r.accepted) g.accepted (λ m past within. grind (arith, (in_group_member r from end n m g high lt within)))
    ∙ least_below_same _ _ end (λ m inside. grind (arith, (in_group_member r from end n m g high lt)))

some_member_is : (r : Requests) (p : Sqe → Bool) (from end n : ℕ) → IsGroup r from end → from ≤ n
    → n < end → some_member r p n ≡ is_some (first_member (λ m. p (entry_of r m)) from end)
unfolding some_member
some_member_is r p from end n g high lt = rw (← is_some_least_below, least_member_is r p from end n g high lt)

pub draining_is : (r : Requests) (from end n : ℕ) → IsGroup r from end → from ≤ n → n < end
    → is_draining r n ≡ is_some (first_drain r from end)
draining_is r from end n g high lt = some_member_is r is_drain from end n g high lt

pub faulty_is : (r : Requests) (from end n : ℕ) → IsGroup r from end → from ≤ n → n < end
    → is_in_faulty_group r n ≡ is_some (first_fault r from end)
faulty_is r from end n g high lt = some_member_is r is_faulty from end n g high lt

-- the least number below a smaller bound, from that below a larger one
abbrev pub kept_before : Option ℕ → ℕ → Option ℕ
kept_before o n = if is_before o n then o else None

least_below_cut : (p : ℕ → Bool) (n end : ℕ) → n ≤ end
    → least_below p n ≡ kept_before (least_below p end) n
least_below_cut p n zero le = grind arith
least_below_cut p n (suc end) le = grind (arith, (cases_lt end n), (cases_eq n (suc end)), (least_below_cut p n end), least_below_low)

-- the least earlier member that failed, if it is before n
pub failed_member_is : (r : Requests) (from end n : ℕ) → IsGroup r from end → from ≤ n → n < end
    → failed_member_of r n ≡ kept_before (first_broken r from end) n
unfolding first_member
failed_member_is r from end n g high lt =
    least_below_same _ _ n (λ m low. grind (arith, (joined_member r from end m n g high lt)))
    ∙ least_below_cut (λ m. leb from m && (is_soft (entry_of r m) && has_failed r m)) n end (omega arith)

pub after_is : (r : Requests) (from end n : ℕ) → IsGroup r from end → from ≤ n → n < end
    → is_after_failure r n ≡ is_before (first_broken r from end) n
unfolding is_after_failure
after_is r from end n g high lt = grind (arith, (failed_member_is r from end n g high lt), (is_some_least_below (is_failure_before r n) n))

-- Whether a request is doomed depends on its group and its own cancellation.
pub doomed_is : (r : Requests) (from end n : ℕ) → IsGroup r from end → from ≤ n → n < end
    → is_doomed r n
    ≡ ((is_some (first_fault r from end) || is_before (first_broken r from end) n) || is_cancelled r n)
unfolding is_doomed
doomed_is r from end n g high lt = grind (arith, faulty_is, is_some, after_is)

-- Whether a request is ready depends on requests that haven't ended.

pub ready_yes : (r : Requests) (from end n : ℕ) → IsGroup r from end → from ≤ n → n < end
    → ((m : ℕ) → from ≤ m → m < n → has_ended r m ≡ true)
    → ((m : ℕ) → m < from → has_ended r m ≡ false → is_draining r m ≡ false)
    → (is_draining r n ≡ true → (m : ℕ) → m < from → has_ended r m ≡ true) → is_ready r n ≡ true
ready_yes r from end n g high lt members drains alone =
    is_ready_yes r n (λ m low. grind (arith, (joined_member r from end m n g high lt), (members m), (drains m), alone))

pub ready_not_member : (r : Requests) (from end n m : ℕ) → IsGroup r from end → n < end → from ≤ m
    → m < n → has_ended r m ≡ false → is_ready r n ≡ false
ready_not_member r from end n m g lt inside low going = grind (arith, (is_ready_no r n m low), (joined_member r from end m n g))

pub ready_not_alone : (r : Requests) (n m : ℕ) → m < n → has_ended r m ≡ false
    → is_draining r n ≡ true → is_ready r n ≡ false
ready_not_alone r n m low going drains = grind (arith, (is_ready_no r n m low))

pub ready_not_after : (r : Requests) (n m : ℕ) → m < n → has_ended r m ≡ false
    → is_draining r m ≡ true → is_ready r n ≡ false
ready_not_after r n m low going drains = grind (arith, (is_ready_no r n m low))

-- Two groups of which one begins before the other ends are one: a member of an earlier group lies before the later group.
pub groups_apart : (r : Requests) (from end first last m : ℕ) → IsGroup r from end
    → IsGroup r first last → from ≤ m → m < end → m < first → first < end → ⊥
groups_apart r from end first last m g h high lt low inside = grind (arith, (g.joined (first - 1)), (h.begins (first - 1)))

-- a least member that was found is a member
pub first_member_inside : (p : ℕ → Bool) (from end k : ℕ) → first_member p from end ≡ Some k
    → (from ≤ k) × (k < end) × (p k ≡ true)
unfolding first_member
first_member_inside p from end k e = grind (arith, least_below_tells)
