-- Lists and counts read straight off a history: what its events tell, and which of them stand before which.
use Rattle.std.specs.Prelude.{ℕ, ◌+◌, Bool, false, not, ◌&&◌, ◌||◌, ◌==◌, nat_lt, List, [], ◌∷◌, ◌++◌, length, sum, count_by, Option, Some, None, unwrap_or, if◌then◌else◌, slice_index_or}
use Rattle.std.specs.List.{filter_map}
use Rattle.std.specs.Option.{option_or}
use Rattle.uring_entry.specs.Layout.{Sqe, Cqe, zero_entry}
use Rattle.uring_entry.specs.Success.{posts_completion}
use Rattle.uring_entry.specs.Setup.{Setup}
use Rattle.uring_entry.specs.Submission.{Call}
use Rattle.uring_entry.specs.Completions.{completion_for}
use Rattle.uring_entry.specs.Requests.{Ending}
use Rattle.uring_core.specs.Histories.{Event, History}
use Rattle.uring_core.specs.Events.{accepted_by, closes_call, end_told_by, entry_taken_by, filled_by, is_flush, is_load_head, is_store_cq_head, is_store_tail, opened_by, opens_call, reaped_by, staged_by, started_by, takes_last, takes_position}

-- What a history tells.

-- what is told, after what was told before
abbrev pub with_told : {A : Type 0} → List A → Option A → List A
with_told before None = before
with_told before (Some x) = before ++ x ∷ []

-- what the events tell, the oldest first
abbrev pub told : {A : Type 0} → (Event → Option A) → History → List A
told tells [] = []
told tells (event ∷ before) = with_told (told tells before) (tells event)

-- what was told last
abbrev pub last_told : {A : Type 0} → (Event → Option A) → History → Option A
last_told tells [] = None
last_told tells (event ∷ before) = option_or (tells event) (last_told tells before)

-- what stands before the last event of this kind: nothing, if there is none
abbrev pub before_last : (Event → Bool) → History → History
before_last is_kind [] = []
before_last is_kind (event ∷ before) = if is_kind event then before else before_last is_kind before

-- what stands after the last event of this kind: everything, if there is none
abbrev pub since_last : (Event → Bool) → History → History
since_last is_kind [] = []
since_last is_kind (event ∷ before) =
    if is_kind event then [] else event ∷ since_last is_kind before

-- The lists.

-- the requests that were started, in order
abbrev pub starts : History → List ℕ
starts h = told started_by h

-- the ends of requests, in order
abbrev pub ends : History → List Ending
ends h = told end_told_by h

-- the completions that the application reaped, in order
abbrev pub reaps : History → List Cqe
reaps h = told reaped_by h

-- the completion of an end, if these entries were accepted, by the manual pages' rules: none, for a success that its entry asks to skip
abbrev pub completion_of : List Sqe → Ending → Option Cqe
completion_of accepted e =
    let entry = slice_index_or accepted e.number zero_entry in
    if posts_completion entry e.res then Some (completion_for entry e.res e.bytes) else None

-- the completions posted, in order, if these entries were accepted, by the manual pages' rules
abbrev pub posts : List Sqe → History → List Cqe
posts accepted h = filter_map (completion_of accepted) (ends h)

-- the words staged, in order
abbrev pub staged_words : History → List ℕ
staged_words h = told staged_by h

-- the words of the published positions: those staged before the last store of the tail
abbrev pub published_words : History → List ℕ
published_words h = staged_words (before_last is_store_tail h)

-- what a slot holds: what it was last filled with, else the zero entry
abbrev pub slot_content : History → ℕ → Sqe
slot_content h slot = unwrap_or (last_told (filled_by slot) h) zero_entry

-- what stands before the store of the tail that published this position, the first one after its word was staged
abbrev pub before_published : ℕ → History → History
before_published position [] = []
before_published position (event ∷ before) =
    if is_store_tail event && not (nat_lt position (length (published_words before))) then before else before_published position before

-- the entry that a published position has, if the table has size slots: what its slot held as it was published, if its word names a slot
abbrev pub published_entry : ℕ → History → ℕ → Option Sqe
published_entry size h position =
    let word = slice_index_or (staged_words h) position 0 in
    if nat_lt word size then Some (slot_content (before_published position h) word) else None

-- how many positions the call took that was opened last
abbrev pub taken_since : History → ℕ
taken_since h = count_by takes_position (since_last opens_call h)

-- how many positions each call took that was closed, in order
abbrev pub call_counts : History → List ℕ
call_counts [] = []
call_counts (event ∷ before) =
    if closes_call event then call_counts before ++ taken_since before ∷ [] else call_counts before

-- how many positions closed calls took
abbrev pub taken_count : History → ℕ
taken_count h = sum (call_counts h)

-- the head of the submission ring that the application last loaded, as a count
abbrev pub loaded_head : History → ℕ
loaded_head h = taken_count (before_last is_load_head h)

-- the entries that calls took, in order
abbrev pub entries_taken : History → List Sqe
entries_taken h = told entry_taken_by h

-- whether the call that was opened last stopped: it took a position after which it stops
abbrev pub has_stopped : Setup → History → Bool
has_stopped g [] = false
has_stopped g (event ∷ before) =
    if opens_call event then false else
    (takes_last g (entries_taken before) event || has_stopped g before)

-- how many positions the call takes that was opened last: those that it opened with, or those that it took, if it stopped
abbrev pub open_count : Setup → History → ℕ
open_count g h = if has_stopped g h then taken_since h else unwrap_or (last_told opened_by h) 0

-- the call that is open, if more were opened than closed: the last one opened, with the positions taken since
abbrev pub open_call : Setup → History → Option Call
open_call g h =
    if count_by opens_call h == count_by closes_call h then None else
    Some (record { count = open_count g h; taken = taken_since h })

-- the sums of a list's beginnings, of which each has an element more, after what was summed before
abbrev pub sums_from : ℕ → List ℕ → List ℕ
sums_from before [] = []
sums_from before (x ∷ xs) = (before + x) ∷ sums_from (before + x) xs

-- how many entries were accepted as each call closed, in order
abbrev pub cut_counts : History → List ℕ
cut_counts h = sums_from 0 (told accepted_by h)

-- how many positions calls took
abbrev pub positions_taken : History → ℕ
positions_taken h = count_by takes_position h

-- the head of the completion ring that the application last stored, and the one that the dispatcher last loaded, as counts
abbrev pub stored_head : History → ℕ
stored_head h = length (reaps (before_last is_store_cq_head h))

abbrev pub flushed_head : History → ℕ
flushed_head h = stored_head (before_last is_flush h)
