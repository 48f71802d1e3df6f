-- What each event makes of what is known of a group.
use Rattle.std.proofs.Common.{◌≡◌, ◌≢◌, ℕ, zero, suc, ◌+◌, ◌<◌, ◌≤◌, ℤ, List, length, length-append, Bool, true, false, not, ◌&&◌, ◌==◌, leb, None, ap, ◌∙◌, arith}
use Rattle.uring_entry.proofs.Common.{IsGroup, Requests, Sqe, and_left, cases_lt, earlier_of, entry_of, eq-eqb, first_broken, first_member, found_or, has_ended, has_failed, is_last, is_soft, least_below, or_right, with_accepted, with_cut, with_ended}
use Rattle.uring_entry.specs.Success.{is_success}
use Rattle.uring_entry.proofs.BelowLemmas.{least_below_none, least_below_same, least_below_low}
use Rattle.uring_entry.proofs.RequestLemmas.{entry_of_accepted_at, entry_of_accepted_other, has_failed_accepted, has_failed_unended, has_failed_same, has_failed_other, added_other, added_same}
use Rattle.uring_entry.proofs.EventLemmas.{is_last_accepted}

pub first_member_same : (p q : ℕ → Bool) (from end : ℕ) → ((m : ℕ) → m < end → p m ≡ q m)
    → first_member p from end ≡ first_member q from end
unfolding first_member
first_member_same p q from end h = least_below_same (λ m. leb from m && p m) (λ m. leb from m && q m) end (λ m lt. ap (λ b. leb from m && b) (h m lt))

-- one member more
pub first_member_more : (p : ℕ → Bool) (from end : ℕ) → from ≤ end
    → first_member p from (end + 1) ≡ found_or (first_member p from end) (p end) end
unfolding first_member
first_member_more p from end le = grind arith

pub first_member_none : (p : ℕ → Bool) (from : ℕ) → first_member p from from ≡ None
unfolding first_member
first_member_none p from = grind (arith, least_below_none, and_left)

-- An entry is accepted.

-- after a group that was closed
pub group_accepted : (r : Requests) (entry : Sqe) (from end : ℕ) → IsGroup r from end
    → ((k : ℕ) → suc k ≡ end → is_last r k ≡ true) → IsGroup (with_accepted r entry) from end
group_accepted r entry from end g closed = grind (arith, length-append, is_last_accepted)

-- into the group that is open
pub group_joined : (r : Requests) (entry : Sqe) (from : ℕ) → IsGroup r from (length r.accepted)
    → ((k : ℕ) → suc k ≡ length r.accepted → is_last r k ≡ false)
    → IsGroup (with_accepted r entry) from (length r.accepted + 1)
group_joined r entry from g joins = grind (arith, length-append, is_last_accepted)

-- into a new group
pub group_new : (r : Requests) (entry : Sqe)
    → ((k : ℕ) → suc k ≡ length r.accepted → is_last r k ≡ true)
    → IsGroup (with_accepted r entry) (length r.accepted) (length r.accepted + 1)
group_new r entry closed = grind (arith, length-append, is_last_accepted)

pub entry_same : (r : Requests) (entry : Sqe) (p : Sqe → Bool) (m : ℕ) → m < length r.accepted
    → p (entry_of (with_accepted r entry) m) ≡ p (entry_of r m)
entry_same r entry p m lt = ap p (entry_of_accepted_other r entry m (λ e. absurd (omega arith)))

pub first_entry_accepted : (r : Requests) (entry : Sqe) (p : Sqe → Bool) (from end : ℕ)
    → end ≤ length r.accepted
    → first_member (λ m. p (entry_of (with_accepted r entry) m)) from end
    ≡ first_member (λ m. p (entry_of r m)) from end
first_entry_accepted r entry p from end le = first_member_same _ _ from end (λ m lt. entry_same r entry p m (omega arith))

pub first_entry_more : (r : Requests) (entry : Sqe) (p : Sqe → Bool) (from : ℕ)
    → from ≤ length r.accepted
    → first_member (λ m. p (entry_of (with_accepted r entry) m)) from (length r.accepted + 1)
    ≡ found_or (first_member (λ m. p (entry_of r m)) from (length r.accepted)) (p entry) (length r.accepted)
first_entry_more r entry p from le = grind (arith, first_member_more, first_entry_accepted, entry_of_accepted_at)

pub first_broken_accepted : (r : Requests) (entry : Sqe) (from end : ℕ)
    → has_ended r (length r.accepted) ≡ false → end ≤ length r.accepted
    → first_broken (with_accepted r entry) from end ≡ first_broken r from end
first_broken_accepted r entry from end none le =
    first_member_same _ _ from end (λ m lt. grind (arith, (entry_same r entry is_soft m), (has_failed_accepted r entry m none)))

pub first_broken_more : (r : Requests) (entry : Sqe) (from : ℕ)
    → has_ended r (length r.accepted) ≡ false → from ≤ length r.accepted
    → first_broken (with_accepted r entry) from (length r.accepted + 1)
    ≡ first_broken r from (length r.accepted)
first_broken_more r entry from none le =
    grind (arith, first_member_more, first_broken_accepted, (has_failed_unended (with_accepted r entry) (length r.accepted) none))

-- A call closes.

pub is_last_cut : (r : Requests) (k : ℕ) → suc k ≢ length r.accepted
    → is_last (with_cut r) k ≡ is_last r k
is_last_cut r k ne = grind (arith, added_other)

pub is_last_cut_last : (r : Requests) (k : ℕ) → suc k ≡ length r.accepted
    → is_last (with_cut r) k ≡ true
is_last_cut_last r k e = or_right _ _ (added_same (λ cut. cut == k + 1) r.cuts (length r.accepted) (eq-eqb _ _ (omega arith)))

pub group_cut : (r : Requests) (from end : ℕ) → IsGroup r from end → IsGroup (with_cut r) from end
group_cut r from end g = grind (arith, is_last_cut)

-- A request ends.

-- the test changes at one number
least_below_changed : (p q : ℕ → Bool) (end n : ℕ) → n < end → p n ≡ false → ((m : ℕ) → m ≢ n → q m ≡ p m)
    → least_below q end ≡ earlier_of (least_below p end) (q n) n
least_below_changed p q zero n lt was others = absurd (omega arith)
least_below_changed p q (suc end) n lt was others = grind (arith, (cases_lt n end), (least_below_changed p q end n), least_below_same, least_below_low)

pub first_broken_ended : (r : Requests) (n : ℕ) (res : ℤ) (bytes : List ℕ) (from end : ℕ) → from ≤ n
    → n < end → has_ended r n ≡ false
    → first_broken (with_ended r n res bytes) from end
    ≡ earlier_of (first_broken r from end) (is_soft (entry_of r n) && not (is_success (entry_of r n) res)) n
unfolding first_member
first_broken_ended r n res bytes from end le lt none =
    least_below_changed (λ m. leb from m && (is_soft (entry_of r m) && has_failed r m)) _ end n lt
    (grind (arith, (has_failed_unended r n none))) (λ m ne. grind (arith, (has_failed_other r n res bytes m ne)))
    ∙ grind (arith, (has_failed_same r n res bytes none))

pub first_broken_elsewhere : (r : Requests) (n : ℕ) (res : ℤ) (bytes : List ℕ) (from end : ℕ)
    → ((m : ℕ) → from ≤ m → m < end → m ≢ n)
    → first_broken (with_ended r n res bytes) from end ≡ first_broken r from end
unfolding first_member
first_broken_elsewhere r n res bytes from end apart =
    least_below_same _ _ end (λ m lt. grind (arith, (apart m), (has_failed_other r n res bytes m)))

pub group_ended : (r : Requests) (n : ℕ) (res : ℤ) (bytes : List ℕ) (from end : ℕ)
    → IsGroup r from end → IsGroup (with_ended r n res bytes) from end
group_ended r n res bytes from end g = grind arith
