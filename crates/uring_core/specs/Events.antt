-- What one event tells, and whom a cancel chose by its result.
use Rattle.std.specs.Prelude.{ℕ, Bool, true, false, ◌||◌, ◌==◌, List, length, Option, Some, None, ℤ, pos, ◌≡◌, ◌⊎◌, is_some, if◌then◌else◌}
use Rattle.uring_entry.specs.Layout.{Sqe, Cqe}
use Rattle.uring_entry.specs.Setup.{Setup}
use Rattle.uring_entry.specs.Preparation.{is_cancel, is_cancel_all}
use Rattle.uring_entry.specs.Requests.{Requests, Ending, entry_of, target_of, is_target}
use Rattle.uring_linux.specs.LinuxRequests.{asks_to_skip}
use Rattle.uring_core.specs.Stops.{some_skips, stops_after, stops_at_word}
use Rattle.uring_core.specs.Histories.{Event}
use Rattle.uring_core.specs.declared.step.Step.TheVariants as step
use Rattle.uring_core.specs.declared.answer.Answer.TheVariants as answer

-- the request that starts
abbrev pub started_by : Event → Option ℕ
started_by (step.Issue n, answer.Run) = Some n
started_by _ = None

-- the end of a request
abbrev pub end_told_by : Event → Option Ending
end_told_by (step.Issue n, answer.Ended res bytes) =
    Some (record { number = n; res = res; bytes = bytes })
end_told_by (step.Finish n, answer.Ended res bytes) =
    Some (record { number = n; res = res; bytes = bytes })
end_told_by _ = None

-- the completion that the application reaps
abbrev pub reaped_by : Event → Option Cqe
reaped_by (step.Reap, answer.Reaped completion) = Some completion
reaped_by _ = None

-- the word that the application stages
abbrev pub staged_by : Event → Option ℕ
staged_by (step.Index word, answer.Staged) = Some word
staged_by _ = None

-- the entry that this slot is filled with
abbrev pub filled_by : ℕ → Event → Option Sqe
filled_by asked (step.Fill slot entry, answer.Filled) = if asked == slot then Some entry else None
filled_by asked _ = None

-- the entry that a call takes
abbrev pub entry_taken_by : Event → Option Sqe
entry_taken_by (step.Take, answer.Entry entry) = Some entry
entry_taken_by _ = None

-- whether a call takes a position, whose word names a slot or not
abbrev pub takes_position : Event → Bool
takes_position (step.Take, answer.Entry entry) = true
takes_position (step.Take, answer.Dropped) = true
takes_position _ = false

-- whether a call stops after the position that it takes, if these entries were taken before
abbrev pub takes_last : Setup → List Sqe → Event → Bool
takes_last g before (step.Take, answer.Entry entry) =
    stops_after g (some_skips before || asks_to_skip entry) entry
takes_last g before (step.Take, answer.Dropped) = stops_at_word g
takes_last g before _ = false

-- how many positions the call has that opens
abbrev pub opened_by : Event → Option ℕ
opened_by (step.Begin count, answer.Call length) = Some length
opened_by _ = None

-- whether a call opens
abbrev pub opens_call : Event → Bool
opens_call event = is_some (opened_by event)

-- how many entries are accepted as the open call closes
abbrev pub accepted_by : Event → Option ℕ
accepted_by (step.End, answer.Taken accepted dropped head) = Some accepted
accepted_by _ = None

-- whether the open call closes
abbrev pub closes_call : Event → Bool
closes_call event = is_some (accepted_by event)

-- whether a call opens, or closes with its entries accepted
abbrev pub takes_in : Event → Bool
takes_in event = opens_call event || closes_call event

-- whether the ring closes
abbrev pub closes_ring : Event → Bool
closes_ring (step.Close, answer.Shut) = true
closes_ring _ = false

-- the loads and stores of the rings' heads and tails, and the flush of the overflow list
abbrev pub is_store_tail : Event → Bool
is_store_tail (step.StoreTail, _) = true
is_store_tail _ = false

abbrev pub is_load_head : Event → Bool
is_load_head (step.LoadHead, _) = true
is_load_head _ = false

abbrev pub is_flush : Event → Bool
is_flush (step.Flush, _) = true
is_flush _ = false

abbrev pub is_load_cq_tail : Event → Bool
is_load_cq_tail (step.LoadCqTail, _) = true
is_load_cq_tail _ = false

abbrev pub is_store_cq_head : Event → Bool
is_store_cq_head (step.StoreCqHead, _) = true
is_store_cq_head _ = false

-- Whom a cancel chose, by its entry and its result, and by the manual pages' rules: by Linux's it chooses nobody.

-- n, a cancel of one that ended with 0, had m as its target
pub record ChoseOne (r : Requests) (n : ℕ) (res : ℤ) (m : ℕ) : Type 0 where
  pub cancel : is_cancel (entry_of r n) ≡ true
  pub one : is_cancel_all (entry_of r n) ≡ false
  pub result : res ≡ pos 0
  pub target : target_of r n ≡ Some m

-- n, a cancel of all that ended with a number, had m among its targets
pub record ChoseAll (r : Requests) (n : ℕ) (res : ℤ) (m : ℕ) : Type 0 where
  pub all : is_cancel_all (entry_of r n) ≡ true
  pub count : ℕ
  pub result : res ≡ pos count
  pub target : is_target r n m ≡ true

-- n, a cancel that ended with this result, chose m
abbrev pub Chose : Requests → ℕ → ℤ → ℕ → Type 0
Chose r n res m = ChoseOne r n res m ⊎ ChoseAll r n res m
