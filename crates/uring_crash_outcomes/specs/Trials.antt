-- Glue. A trial of moves with the logs of its files, what it may show, and the walk over all lists of moves.
use Rattle.std.specs.Prelude.{◌≡◌, ◌⊎◌, ◌<◌, ℕ, Bool, true, false, List, [], ◌∷◌, ◌++◌, length, map, None, Some, Contains, slice_get, slice_index_or}
use Rattle.std.specs.List.{flat_map}
use Rattle.uring_entry.specs.Setup.{Setup}
use Rattle.uring_entry.specs.Layout.{Sqe, Cqe}
use Rattle.uring_volume.specs.Images.{IsImage}
use Rattle.uring_volume.specs.Listing.{AreTheImages}
use Rattle.uring_crash_machine.specs.Epochs.{first_files, logs_on}
use Rattle.uring_crash_machine.specs.Logs.{Log, empty_log}
use Rattle.uring_outcomes.specs.Moments.{Moment, starting, after_moves}
use Rattle.uring_outcomes.specs.declared.move_of_calls.Move.{Move}
use Rattle.uring_outcomes.specs.Runs.{StandsAt}
use Rattle.uring_outcomes.specs.Walks.{BeginsIn}
use Rattle.uring_outcomes.specs.declared.run.Run.{Run}
use Rattle.uring_crash_outcomes.specs.Shown.{Crash, AreLeft}
use Rattle.uring_crash_outcomes.specs.Moves.{log_along, CanShow}
use Rattle.uring_crash_outcomes.specs.declared.fault.CrashFault.{CrashFault}
use Rattle.uring_crash_outcomes.specs.declared.fault.CrashFault.TheVariants.{Memory, Spent, Images}

-- Trials.

-- the logs of all files, from descriptor 0 on, after these moves
abbrev pub logs_after : ℕ → Setup → List (List Sqe) → List Move → List Log
logs_after unit g calls moves =
    map (log_along moves (starting g calls)) (logs_on unit 0 (first_files g.files []))

-- These moves were made: the run stands after them, and the logs are what they make of them.
pub record HasMade (unit : ℕ) (g : Setup) (calls : List (List Sqe)) (moves : List Move) (run : Run) (logs : List Log) : Type 0 where
  pub last : Moment
  pub leads : after_moves (starting g calls) moves ≡ Some last
  pub at : StandsAt calls run last
  pub are : logs ≡ logs_after unit g calls moves

-- whether these moves were made: if they weren't, they can't be
pub record HasTried (unit : ℕ) (g : Setup) (calls : List (List Sqe)) (moves : List Move) (all : Bool) (run : Run) (logs : List Log) : Type 0 where
  pub made : all ≡ true → HasMade unit g calls moves run logs
  pub stopped : all ≡ false → after_moves (starting g calls) moves ≡ None

-- What is left of files with these logs.

-- these bytes may be left of the files with these logs, of each by itself
pub record AreLeftOf (logs : List Log) (left : List (List ℕ)) : Type 0 where
  pub many : length left ≡ length logs
  pub each : (place : ℕ) (log : Log) → slice_get logs place ≡ Some log
      → IsImage log.volume.unit log.volume.first log.volume.history (slice_index_or left place [])

-- a power failure shows these completions, and what may be left of files with these logs
pub record Shows (posted : List Cqe) (logs : List Log) (c : Crash) : Type 0 where
  pub posts : posted ≡ c.posted
  pub left : AreLeftOf logs c.left

-- the list has what it may show there, and nothing else
pub record AreShown (posted : List Cqe) (logs : List Log) (crashes : List Crash) : Type 0 where
  pub right : (c : Crash) → Contains crashes c → Shows posted logs c
  pub all : (c : Crash) → Shows posted logs c → Contains crashes c

-- this with one file more, of which these bytes are left
abbrev pub with_file : Crash → List ℕ → Crash
with_file c bytes = record c { left = c.left ++ bytes ∷ [] }

-- these, each with each of these files more
abbrev pub spread_over : List Crash → List (List ℕ) → List Crash
spread_over crashes images = flat_map (λ c. map (with_file c) images) crashes

-- these are those of fewer files, each with each image of this one more
pub record Widens (log : Log) (old new : List Crash) : Type 0 where
  pub images : List (List ℕ)
  pub are : AreTheImages log.volume.unit log.volume.first log.volume.history images
  pub wider : new ≡ spread_over old images

-- the file with this log may be left in more ways than this, if that is the fault
abbrev pub IsTooMany : Log → ℕ → CrashFault → Type 0
IsTooMany log most Images =
    (ways : List (List ℕ)) × (AreTheImages log.volume.unit log.volume.first log.volume.history ways × (most < length ways))
IsTooMany log most Memory = Unit {0}
IsTooMany log most Spent = ⊥

-- one of the files with these logs may be, if that is the fault
abbrev pub IsCrowdedBy : List Log → ℕ → CrashFault → Type 0
IsCrowdedBy logs most Images =
    (place : ℕ) × ((log : Log) × ((slice_get logs place ≡ Some log) × IsTooMany log most Images))
IsCrowdedBy logs most Memory = Unit {0}
IsCrowdedBy logs most Spent = ⊥

-- Walks.

-- after these moves, which lead to this moment, a power failure may show this
pub record IsShownAfter (unit : ℕ) (g : Setup) (calls : List (List Sqe)) (moves : List Move) (m : Moment) (c : Crash) : Type 0 where
  pub posts : m.posted ≡ c.posted
  pub left : AreLeft unit g.files (λ fd. log_along moves (starting g calls) (empty_log unit fd)) c.left

-- How the walk stands: what is shown after moves is among what was found, or they begin with a path that is still to be taken; and each that was found is one.
pub record IsWalk (unit : ℕ) (g : Setup) (calls : List (List Sqe)) (todo : List (List Move)) (found : List Crash) : Type 0 where
  pub covered : (moves : List Move) (last : Moment) (c : Crash)
      → after_moves (starting g calls) moves ≡ Some last → IsShownAfter unit g calls moves last c
      → Contains found c ⊎ BeginsIn todo moves
  pub right : (c : Crash) → Contains found c → CanShow unit g calls c

-- a path was taken: with it the walk stood, and stands without it
abbrev pub TakesPath : ℕ → Setup → List (List Sqe) → List Move → List (List Move) → List Crash
    → List (List Move) → List Crash → Type 0
TakesPath unit g calls path todo found todo_after found_after =
    IsWalk unit g calls (todo ++ path ∷ []) found → IsWalk unit g calls todo_after found_after
