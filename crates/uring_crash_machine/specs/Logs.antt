-- The volume of a file of a machine: its writes and syncs as a history issued and ended them, so that what a crash leaves of a volume is what it leaves of the file. All of it is our own rule.
use Rattle.std.specs.Prelude.{◌≡◌, ℕ, ℤ, Bool, true, false, pos, ◌+◌, ◌-◌, ◌^◌, ◌≤◌, ◌&&◌, ◌==◌, nat_le, List, [], ◌∷◌, ◌++◌, length, map, take, suc, reverse, slice_get, Option, Some, None, if◌then◌else◌}
use Rattle.std.specs.List.{filter, list_any}
use Rattle.std.specs.Ordering.{int_eq}
use Rattle.uring_entry.specs.Setup.{Setup}
use Rattle.uring_entry.specs.Requests.{Requests, operation_running}
use Rattle.uring_entry.specs.declared.operation.Op.{Op}
use Rattle.uring_files.specs.Operations.{change_by}
use Rattle.uring_files.specs.declared.change.Change.{Change}
use Rattle.uring_files.specs.declared.change.Change.TheVariants.{Nothing, Put, Sync}
use Rattle.uring_volume.specs.Volume.{Volume, ended, with_event, with_write, with_sync, is_known, is_one_of, running_writes, running_syncs}
use Rattle.uring_volume.specs.Writes.{Write}
use Rattle.uring_volume.specs.Events as volume
use Rattle.uring_volume.specs.Events.{is_safe}
use Rattle.uring_volume.specs.Folds.{IsFoldable, IsFoldedFrom, IsUnderSafe}
use Rattle.uring_volume.specs.Images.{IsIn, length_over}
use Rattle.uring_volume.specs.declared.event.SyncRange.TheVariants.{Whole}
use Rattle.uring_volume.specs.declared.event.Event.TheVariants.{WriteEnded, SyncEnded, SyncFailed}
use Rattle.uring_core.specs.Histories.{History, world}
use Rattle.uring_crash_machine.specs.declared.numbering.Numbered.{Numbered}
use Rattle.uring_core.specs.declared.step.Step.{Step}
use Rattle.uring_core.specs.declared.step.Step.TheVariants as step
use Rattle.uring_core.specs.declared.answer.Answer.{Answer}
use Rattle.uring_core.specs.declared.answer.Answer.TheVariants as answer

-- A file's volume, and the requests that its writes and syncs are.
pub record Log : Type 0 where
  -- the file's descriptor
  pub fd : ℤ
  pub volume : Volume
  -- the newest first: the oldest has number 1 on the volume, and so on
  pub requests : List ℕ

-- the file before the first step, in units of so many bytes: it has these bytes
abbrev pub log_on : ℕ → List ℕ → ℤ → Log
log_on unit first fd = record {
  fd = fd;
  volume = record { unit = unit; first = first; history = []; next = 1 };
  requests = [];
}

-- the same of a file that is empty
abbrev pub empty_log : ℕ → ℤ → Log
empty_log unit fd = log_on unit [] fd

-- the number that a request has on the volume, 0 if it has none
abbrev pub number_of : ℕ → List ℕ → ℕ
number_of n [] = 0
number_of n (m ∷ older) = if m == n then suc (length older) else number_of n older

-- the request that has a number on the volume, if one has
abbrev pub request_of : ℕ → List ℕ → Option ℕ
request_of number requests =
    if number == 0 then None else slice_get (reverse requests) (number - 1)

-- how long the file is that a read of the volume shows
abbrev pub shown_length : Volume → ℕ
shown_length v = length_over (length v.first) (ended v.history)

-- a change of the file begins as request n: it is issued on the volume
abbrev pub change_begun : ℕ → Change → Log → Log
change_begun n (Put fd off len bytes given) log =
    if int_eq log.fd fd then
    record log { volume = with_write off (take len bytes) log.volume; requests = n ∷ log.requests }
    else log
change_begun n (Sync fd) log =
    if int_eq log.fd fd then
    record log { volume = with_sync Whole log.volume; requests = n ∷ log.requests }
    else log
change_begun n Nothing log = log

-- request n begins, with what it changes of the file as it is shown now
abbrev pub begun : ℕ → Op → Log → Log
begun n op log = change_begun n (change_by op (shown_length log.volume)) log

-- the write of this number ends on the volume, if it runs there
abbrev pub write_ended : ℕ → Volume → Volume
write_ended k v =
    if is_one_of k (running_writes v.history) then with_event (WriteEnded k) v else v

-- and the sync of this number, with success if its result is 0
abbrev pub sync_with : ℤ → ℕ → Volume → Volume
sync_with res k v =
    if is_one_of k (running_syncs v.history) then
    with_event (if int_eq res (pos 0) then SyncEnded k else SyncFailed k) v
    else v

-- The change that request n makes of the file ends with this result. What was put and failed stays as a write that runs, so that any part of it may be left
abbrev pub change_ended : ℕ → Change → ℤ → Log → Log
change_ended n (Put fd off len bytes given) res log =
    if int_eq log.fd fd && int_eq res given then
    record log { volume = write_ended (number_of n log.requests) log.volume }
    else log
change_ended n (Sync fd) res log =
    if int_eq log.fd fd then
    record log { volume = sync_with res (number_of n log.requests) log.volume }
    else log
change_ended n Nothing res log = log

-- request n ends with this result, with what it changes of the file as it is shown now
abbrev pub finished : ℕ → Op → ℤ → Log → Log
finished n op res log = change_ended n (change_by op (shown_length log.volume)) res log

-- the same of the operation that ran, if one did
abbrev pub begun_of : ℕ → Option Op → Log → Log
begun_of n None log = log
begun_of n (Some op) log = begun n op log

abbrev pub finished_of : ℕ → Option Op → ℤ → Log → Log
finished_of n None res log = log
finished_of n (Some op) res log = finished n op res log

-- what the answer to an Issue or a Finish of request n makes of the log: the one begins it if it runs from then on, the other ends it if it ran
abbrev pub issued_as : ℕ → Option Op → Answer → Log → Log
issued_as n op answer.Run log = begun_of n op log
issued_as n op a log = log

abbrev pub finished_as : ℕ → Option Op → Answer → Log → Log
finished_as n op (answer.Ended res bytes) log = finished_of n op res log
finished_as n op a log = log

-- what a step with its answer makes of the log, as the requests stand before it and after it
abbrev pub logged : Requests → Requests → Step → Answer → Log → Log
logged r q (step.Issue n) a log = issued_as n (operation_running q n) a log
logged r q (step.Finish n) a log = finished_as n (operation_running r n) a log
logged r q s a log = log

-- What a history has made of the log of a file.
abbrev pub log_from : Log → Setup → History → Log
log_from start g [] = start
log_from start g ((s, a) ∷ before) =
    logged (world g before).requests (world g ((s, a) ∷ before)).requests s a (log_from start g before)

-- The log of a file that was empty at first, as a history has made it.
abbrev pub log_of : ℕ → Setup → ℤ → History → Log
log_of unit g fd h = log_from (empty_log unit fd) g h

-- A log after its volume was folded: nothing else of it changes.
pub record IsFoldedLog (old new : Log) : Type 0 where
  pub fd : new.fd ≡ old.fd
  pub volume : IsFoldedFrom old.volume new.volume
  pub requests : new.requests ≡ old.requests

-- and so each of these, in their order
abbrev pub AreFolded : (old new : List Log) → Type 0
AreFolded [] [] = Unit {0}
AreFolded (before ∷ more) (after ∷ others) = IsFoldedLog before after × AreFolded more others
AreFolded old new = ⊥

-- no write of a log is left that could be folded, and none that isn't safe and lies under a safe one
pub record IsWhollyFolded (log : Log) : Type 0 where
  pub none_left : (w : Write) → IsFoldable log.volume.history w → ⊥
  pub none_under : (w : Write) → is_safe log.volume.history w ≡ false → IsUnderSafe log.volume.history w → ⊥

abbrev pub AreWhollyFolded : List Log → Type 0
AreWhollyFolded [] = Unit {0}
AreWhollyFolded (log ∷ more) = IsWhollyFolded log × AreWhollyFolded more

-- Which number on its volume each request of a file has: of all that began as proofs alone see it, and of those that are kept. Our own structure.

-- The requests that began, the newest first, and in how many steps they were told.
pub record Begun : Type 0 where
  pub requests : List ℕ
  pub steps : ℕ

abbrev pub none_begun : Begun
none_begun = record { requests = []; steps = 0 }

abbrev pub one_begun : ℕ → Begun → Begun
one_begun n b = record { requests = n ∷ b.requests; steps = b.steps + 1 }

abbrev pub begun_by : {S : Type 0} → (S → Begun) → Option S → ℕ → Begun
begun_by f None n = none_begun
begun_by f (Some b) n = one_begun n (f b)

-- whether one of these has this number
abbrev pub has_number : ℕ → List Numbered → Bool
has_number k numbers = list_any (λ p. p.number == k) numbers

-- one that isn't its request's last any more if that is n, which begins again
abbrev pub unless_last : ℕ → Numbered → Numbered
unless_last n p = if p.request == n then record p { is_last = false } else p

-- with one more
abbrev pub numbered_as : (n k : ℕ) → List Numbered → List Numbered
numbered_as n k numbers =
    map (unless_last n) numbers ++ record { request = n; number = k; is_last = true } ∷ []

-- These requests give this one this number, and no later one if it is its last.
pub record IsGivenBy (requests : List ℕ) (p : Numbered) : Type 0 where
  pub request : request_of p.number requests ≡ Some p.request
  pub last : p.is_last ≡ (number_of p.request requests == p.number)

-- how many numbers may be given before a fold keeps those that it need not
abbrev pub most_numbers : ℕ
most_numbers = 2 ^ 62

-- those that a fold leaves, which knows the writes that are there and the syncs that run
abbrev pub left_of : ℕ → volume.History → List Numbered → List Numbered
left_of next h numbers =
    if nat_le next most_numbers then filter (λ p. is_known p.number h) numbers else numbers

-- What is kept of the numbers of these requests tells of each write that is there and each sync that runs. Numbers never run out before memory does: past so many none of these is let go
pub record AreNumbered (requests : List ℕ) (h : volume.History) (numbers : List Numbered) : Type 0 where
  pub each : (p : Numbered) → IsIn p numbers → IsGivenBy requests p
  pub all : (k : ℕ) → is_known k h ≡ true → has_number k numbers ≡ true
  pub few : length requests ≤ most_numbers + length numbers
