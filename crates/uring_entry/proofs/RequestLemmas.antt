-- What the definitions on requests mean, and what each event changes in them.
use Rattle.std.proofs.Common.{◌≡◌, ℕ, ◌<◌, ◌≤◌, ℤ, pos, negsuc, List, [], ◌∷◌, ◌++◌, length, get_or, Bool, true, false, not, ◌&&◌, ◌||◌, leb, Some, None, length-append, ◌==◌, ◌≢◌, refl, ◌∙◌, ap, arith}
use Rattle.uring_entry.proofs.Common.{Requests, Sqe, and_from, and_left, and_right, cases_eq, entry_of, eq-eqb, get_or_past, has_ended, has_failed, holds_back, if◌then◌else◌, int_le, is_after_failure, is_cancel, is_cancel_all, is_cancelled, is_candidate, is_doomed, is_faulty, is_in_faulty_group, is_in_group, is_issuable, is_joined, is_last, is_outstanding, is_ready, is_running, is_target, is_transfer, least_of, len_of, list_any, or-false, or_left, or_right, some_member, target_of, targets_of, with_accepted, with_ended, with_started, zero_entry}
use Rattle.std.specs.Ordering.{int_eq}
use Rattle.std.proofs.Math.ListN.{get_or-append}
use Rattle.std.proofs.Math.Seq.{get_or-append_seam}
use Rattle.std.proofs.lemmas.List.Folds.{list_any-append}
use Rattle.uring_entry.specs.Success.{is_success}
use Rattle.uring_entry.specs.Why.{is_faulty_member}
use Rattle.uring_entry.proofs.BelowLemmas.{some_below_none, some_below_some, least_below_none, least_below_some, least_below_tells, all_below_in, all_below_there}

-- Groups.

pub is_joined_yes : (r : Requests) (m n : ℕ) → ((k : ℕ) → m ≤ k → k < n → is_last r k ≡ false)
    → is_joined r m n ≡ true
unfolding is_joined
is_joined_yes r m n h = grind (arith, some_below_none, and_left)

pub is_joined_no : (r : Requests) (m n k : ℕ) → m ≤ k → k < n → is_last r k ≡ true
    → is_joined r m n ≡ false
unfolding is_joined
is_joined_no r m n k le lt e = grind (arith, (some_below_some (λ j. leb m j && is_last r j) n k lt))

pub is_joined_inside : (r : Requests) (m n k : ℕ) → is_joined r m n ≡ true → m ≤ k → k < n
    → is_last r k ≡ false
is_joined_inside r m n k joined le lt = grind (arith, is_joined_no)

-- Who is doomed.

pub is_doomed_faulty : (r : Requests) (n : ℕ) → is_in_faulty_group r n ≡ true → is_doomed r n ≡ true
unfolding is_doomed
is_doomed_faulty r n e = or_left _ _ (or_left _ _ e)

pub is_doomed_after : (r : Requests) (n : ℕ) → is_after_failure r n ≡ true → is_doomed r n ≡ true
unfolding is_doomed
is_doomed_after r n e = or_left _ _ (or_right _ _ e)

pub is_doomed_cancelled : (r : Requests) (n : ℕ) → is_cancelled r n ≡ true → is_doomed r n ≡ true
unfolding is_doomed
is_doomed_cancelled r n e = or_right _ _ e

-- a request is in its own group
pub is_in_own_group : (r : Requests) (n : ℕ) → is_in_group r n n ≡ true
is_in_own_group r n = grind (arith, is_joined_yes)

-- a request's own fault dooms it
pub is_doomed_own_fault : (r : Requests) (n : ℕ) → n < length r.accepted
    → is_faulty (entry_of r n) ≡ true → is_doomed r n ≡ true
unfolding is_doomed some_member
is_doomed_own_fault r n lt e = grind (arith, (some_below_some (is_faulty_member r n) (length r.accepted) n lt), is_in_own_group)

-- Who may start.

pub is_ready_yes : (r : Requests) (n : ℕ) → ((m : ℕ) → m < n → holds_back r n m ≡ false)
    → is_ready r n ≡ true
unfolding is_ready
is_ready_yes r n h = ap not (some_below_none (holds_back r n) n h)

pub is_ready_no : (r : Requests) (n m : ℕ) → m < n → holds_back r n m ≡ true → is_ready r n ≡ false
unfolding is_ready
is_ready_no r n m lt e = ap not (some_below_some (holds_back r n) n m lt e)

pub is_ready_inside : (r : Requests) (n m : ℕ) → is_ready r n ≡ true → m < n
    → holds_back r n m ≡ false
is_ready_inside r n m ready lt = grind (arith, is_ready_no)

-- What a cancel chooses.

pub target_of_none : (r : Requests) (n : ℕ)
    → ((m : ℕ) → m < length r.accepted → is_candidate r n m ≡ false) → target_of r n ≡ None
unfolding target_of
target_of_none r n h = least_below_none (is_candidate r n) (length r.accepted) h

pub target_of_some : (r : Requests) (n m : ℕ) → m < length r.accepted → is_candidate r n m ≡ true
    → ((k : ℕ) → k < m → is_candidate r n k ≡ false) → target_of r n ≡ Some m
unfolding target_of
target_of_some r n m lt e before = grind (arith, (least_below_some (is_candidate r n) (length r.accepted) m lt e before))

pub target_in : (r : Requests) (n m : ℕ) → list_any (λ k. k == m) (targets_of r n) ≡ true
    → is_target r n m ≡ true
unfolding targets_of
target_in r n m e = (all_below_in (is_target r n) (length r.accepted) m e).1

pub target_there : (r : Requests) (n m : ℕ) → m < length r.accepted → is_target r n m ≡ true
    → list_any (λ k. k == m) (targets_of r n) ≡ true
unfolding targets_of
target_there r n m lt e = all_below_there (is_target r n) (length r.accepted) m lt e

-- When a cancel succeeded.

pub one_success : (e : Sqe) (res : ℤ) → is_cancel e ≡ true → is_cancel_all e ≡ false
    → is_success e res ≡ int_eq res (pos 0)
one_success e res is one = grind arith

pub all_success : (e : Sqe) (res : ℤ) → is_cancel_all e ≡ true
    → is_success e res ≡ int_le (pos 0) res
all_success e res all = ap (λ b. if b then int_le (pos 0) res else int_eq res (pos (if is_transfer e then len_of e else 0))) all

-- nothing succeeds with the negative of a number
pub never_success : (e : Sqe) (below : ℕ) → is_success e (negsuc below) ≡ false
never_success e below = grind arith

-- the least outstanding request is running, or can be issued
pub least_of_goes_on : (r : Requests) (n : ℕ) → least_of r ≡ Some n
    → (is_running r n || is_issuable r n) ≡ true
least_of_goes_on r n e = grind (arith, (least_below_tells (is_outstanding r) (length r.accepted) n e), is_ready_yes)

-- What each event changes.

pub list_any_push : {X : Type 0} (p : X → Bool) (xs : List X) (x : X)
    → list_any p (xs ++ x ∷ []) ≡ (list_any p xs || p x)
list_any_push p xs x = list_any-append p xs (x ∷ []) ∙ ap (λ b. list_any p xs || b) (or-false (p x))

-- an element is added at the end that the test at k passes, or that it doesn't
pub added_same : {X : Type 0} (p : X → Bool) (xs : List X) (x : X) → p x ≡ true
    → list_any p (xs ++ x ∷ []) ≡ true
added_same p xs x e = list_any_push p xs x ∙ or_right _ _ e

pub added_other : {X : Type 0} (p : X → Bool) (xs : List X) (x : X) → p x ≡ false
    → list_any p (xs ++ x ∷ []) ≡ list_any p xs
added_other p xs x e = list_any_push p xs x ∙ ap (λ b. list_any p xs || b) e ∙ or-false _

pub has_ended_same : (r : Requests) (n : ℕ) (res : ℤ) (bytes : List ℕ)
    → has_ended (with_ended r n res bytes) n ≡ true
has_ended_same r n res bytes = added_same (λ e. e.number == n) r.ended _ (eq-eqb n n refl)

pub has_ended_other : (r : Requests) (n : ℕ) (res : ℤ) (bytes : List ℕ) (k : ℕ) → k ≢ n
    → has_ended (with_ended r n res bytes) k ≡ has_ended r k
has_ended_other r n res bytes k ne = grind (arith, added_other)

pub is_running_ended_same : (r : Requests) (n : ℕ) (res : ℤ) (bytes : List ℕ)
    → is_running (with_ended r n res bytes) n ≡ false
is_running_ended_same r n res bytes = and_right _ _ (ap not (has_ended_same r n res bytes))

pub is_running_ended_other : (r : Requests) (n : ℕ) (res : ℤ) (bytes : List ℕ) (k : ℕ) → k ≢ n
    → is_running (with_ended r n res bytes) k ≡ is_running r k
is_running_ended_other r n res bytes k ne = grind (arith, has_ended_other)

pub is_running_started_same : (r : Requests) (n : ℕ) → has_ended r n ≡ false
    → is_running (with_started r n) n ≡ true
is_running_started_same r n e = grind (arith, and_from, added_same)

pub is_running_started_other : (r : Requests) (n k : ℕ) → k ≢ n
    → is_running (with_started r n) k ≡ is_running r k
is_running_started_other r n k ne = grind (arith, added_other)

list_any_both : {X : Type 0} (p q : X → Bool) (xs : List X) → list_any p xs ≡ false
    → list_any (λ x. p x && q x) xs ≡ false
list_any_both p q [] e = refl
list_any_both p q (x ∷ xs) e = grind (arith, (list_any_both p q xs))

pub has_failed_unended : (r : Requests) (k : ℕ) → has_ended r k ≡ false → has_failed r k ≡ false
has_failed_unended r k e = list_any_both (λ x. x.number == k) (λ x. not (is_success (entry_of r k) x.res)) r.ended e

pub has_failed_same : (r : Requests) (n : ℕ) (res : ℤ) (bytes : List ℕ) → has_ended r n ≡ false
    → has_failed (with_ended r n res bytes) n ≡ not (is_success (entry_of r n) res)
has_failed_same r n res bytes e = grind (arith, (has_failed_unended r n e), (eq-eqb n n refl), list_any_push)

pub has_failed_other : (r : Requests) (n : ℕ) (res : ℤ) (bytes : List ℕ) (k : ℕ) → k ≢ n
    → has_failed (with_ended r n res bytes) k ≡ has_failed r k
has_failed_other r n res bytes k ne = grind (arith, added_other, and_left)

-- an element added at the end stands there alone
pub get_or_push_other : {X : Type 0} (xs : List X) (x : X) (k : ℕ) (d : X) → k ≢ length xs
    → get_or (xs ++ x ∷ []) k d ≡ get_or xs k d
get_or_push_other xs x k d ne = grind (arith, get_or-append, get_or_past, length-append)

pub entry_of_accepted_at : (r : Requests) (entry : Sqe)
    → entry_of (with_accepted r entry) (length r.accepted) ≡ entry
entry_of_accepted_at r entry = get_or-append_seam r.accepted entry [] zero_entry

pub entry_of_accepted_other : (r : Requests) (entry : Sqe) (k : ℕ) → k ≢ length r.accepted
    → entry_of (with_accepted r entry) k ≡ entry_of r k
entry_of_accepted_other r entry k ne = get_or_push_other r.accepted entry k zero_entry ne

pub has_failed_accepted : (r : Requests) (entry : Sqe) (k : ℕ)
    → has_ended r (length r.accepted) ≡ false
    → has_failed (with_accepted r entry) k ≡ has_failed r k
has_failed_accepted r entry k none =
    grind (arith, (cases_eq k (length r.accepted)), entry_of_accepted_other, (has_failed_unended r k), (has_failed_unended (with_accepted r entry) k))
