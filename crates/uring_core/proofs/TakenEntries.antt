-- The entries that submission calls took, from step to step.
use Rattle.std.proofs.Common.{◌≡◌, ℕ, ◌+◌, ◌≤◌, [], ◌++◌, length, take, List, Option, Some, slice_get, arith, IfSome}
use Rattle.uring_core.proofs.Common.{Call, Place, Sqe, Submission, cons_option, entries_of, get_or_from_slice_get, pending, slice_get_within, sum_by_push, take-append-le, take_more, taken, taken_entries, with_closed, with_published}
use Rattle.std.proofs.lemmas.List.Elements.{filter_map-append}

-- a beginning that goes one place further
pub one_further : (places : List Place) (k : ℕ) (place : Place) (entry : Option Sqe)
    → slice_get places k ≡ Some place → place.entry ≡ entry
    → entries_of (take (k + 1) places) ≡ entries_of (take k places) ++ cons_option entry []
one_further places k place entry at is =
    grind (arith, (take_more places k place (slice_get_within places k place at)), (get_or_from_slice_get places k place place at), filter_map-append)

-- the entries once the open call took this position more
pub taken_more : (l : Submission) (call : Call) (place : Place) (entry : Option Sqe) → l.call ≡ Some call
    → slice_get l.published (taken l + call.taken) ≡ Some place → place.entry ≡ entry
    → entries_of (take (taken l + (call.taken + 1)) l.published) ≡ taken_entries l ++ cons_option entry []
taken_more l call place entry is at has = grind (arith, (one_further l.published (taken l + call.taken) place entry at has))

-- what was taken stays as more is published
pub stored_entries : (size : ℕ) (l : Submission) → taken l ≤ length l.published
    → IfSome l.call (λ call. (call.taken ≤ call.count) × (call.count ≤ pending l))
    → taken_entries (with_published size l) ≡ taken_entries l
stored_entries size l within fits = grind (arith, take-append-le)

-- and as it closes
pub closed_entries : (l : Submission) (call : Call) → l.call ≡ Some call → call.taken ≡ call.count
    → taken_entries (with_closed l call) ≡ taken_entries l
closed_entries l call is all = grind (arith, sum_by_push)
