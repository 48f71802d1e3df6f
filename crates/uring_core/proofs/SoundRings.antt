-- What holds of both rings' lists in every lawful history.
use Rattle.std.proofs.Common.{◌≡◌, ℕ, ◌+◌, ◌<◌, ◌≤◌, Bool, false, eqb, length, take, Option, Some, None, cond, arith}
use Rattle.uring_core.proofs.Common.{Call, Completions, Cqe, Submission, and_parts, eqb-true, get_or_from_slice_get, is_full, length-append, length-map, length_push, ltb-true, next_to_reap, open_taken, slice_get_within, staged, sum_by_push, take-append-le, take_more, taken, with_closed, with_posted, with_published, with_reaped, with_staged, with_stopped, with_taken}

-- The completion ring.

pub record IsSoundCompletions (size : ℕ) (l : Completions) : Type 0 where
  pub begins : l.reaped ≡ take (length l.reaped) l.posted
  pub reaped_seen : length l.reaped ≤ l.seen_tail
  pub seen_put : l.seen_tail ≤ l.put
  pub put_posted : l.put ≤ length l.posted
  pub seen_head_head : l.seen_head ≤ l.head
  pub head_reaped : l.head ≤ length l.reaped
  pub fits : l.put ≤ l.seen_head + size
  pub full_ring : l.put < length l.posted → l.put ≡ l.seen_head + size

pub end_sound : (size : ℕ) (l : Completions) (c : Cqe) (told : Bool) → IsSoundCompletions size l
    → IsSoundCompletions size (cond told (with_posted size l c) l)
end_sound size l c told s = grind (arith, and_parts, eqb-true, ltb-true, take-append-le, length_push)

pub reap_sound : (size : ℕ) (l : Completions) (c : Cqe) → next_to_reap l ≡ Some c
    → IsSoundCompletions size l → IsSoundCompletions size (with_reaped l c)
reap_sound size l c e s =
    grind (arith, (slice_get_within l.posted (length l.reaped) c), (get_or_from_slice_get l.posted (length l.reaped) c c), (take_more l.posted (length l.reaped) c), (length_push l.reaped c))

-- The submission ring.

-- how many positions the open call has, and how many of them it took
abbrev pub open_count : Option Call → ℕ
open_count None = 0
open_count (Some call) = call.count

pub record IsSoundSubmission (size : ℕ) (l : Submission) : Type 0 where
  pub seen_first : l.seen_head ≤ taken l
  pub call_published : taken l + open_count l.call ≤ length l.published
  pub within_call : open_taken l.call ≤ open_count l.call
  pub few : staged l ≤ l.seen_head + size

pub stage_sound : (size : ℕ) (l : Submission) (word : ℕ) → is_full size l ≡ false
    → IsSoundSubmission size l → IsSoundSubmission size (with_staged l word)
stage_sound size l word e s = grind (arith, length_push)

pub store_sound : (size : ℕ) (l : Submission) → IsSoundSubmission size l
    → IsSoundSubmission size (with_published size l)
store_sound size l s = grind (arith, length-append, length-map)

pub take_sound : (size : ℕ) (l : Submission) (call : Call) (stops : Bool) → l.call ≡ Some call
    → eqb call.taken call.count ≡ false → IsSoundSubmission size l
    → IsSoundSubmission size (with_stopped stops (with_taken l call))
take_sound size l call stops e f s = grind arith

pub close_sound : (size : ℕ) (l : Submission) (call : Call) → l.call ≡ Some call
    → IsSoundSubmission size l → IsSoundSubmission size (with_closed l call)
close_sound size l call e s = grind (arith, sum_by_push)
