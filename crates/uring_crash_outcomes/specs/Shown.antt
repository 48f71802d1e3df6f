-- What a power failure may show of calls: what was posted by then, and what is left of each file. All of it is our own rule; what may be left of a file is that of uring_volume.
use Rattle.std.specs.Prelude.{◌≡◌, ℕ, ℤ, pos, ◌<◌, List, [], ◌++◌, length, map, slice_index_or}
use Rattle.uring_entry.specs.Setup.{Setup}
use Rattle.uring_entry.specs.Layout.{Cqe}
use Rattle.uring_entry.specs.Submission.{Published, published_items}
use Rattle.uring_volume.specs.Images.{IsImage}
use Rattle.uring_core.specs.CalledFor.{IsLawful}
use Rattle.uring_core.specs.Histories.{History, world}
use Rattle.uring_crash_machine.specs.Logs.{Log, log_of}
use Rattle.uring_outcomes.specs.CallOutcomes.{items_in, RefusesNone}

-- What a power failure shows: the completions that were posted by then, in order, and the bytes that are left of each file, from descriptor 0 on.
pub record Crash : Type 0 where
  pub posted : List Cqe
  pub left : List (List ℕ)

-- A history has begun these calls: it is lawful and refused no memory, it published items of theirs, from the first on, in order, and the calls that have ended in it had the lengths of the first of these. Nothing need be over: a call may be open, and requests may wait or run.
pub record HasBegun (g : Setup) (calls : List (List Published)) (h : History) : Type 0 where
  pub lawful : IsLawful g h
  pub refuses_none : RefusesNone g h
  pub unpublished : List Published
  pub published : published_items (world g h).submission ++ unpublished ≡ items_in calls
  pub later : List ℕ
  pub cut : (world g h).submission.calls ++ later ≡ map length calls

-- These bytes may be left of so many files: of each an image of what happened to it, by itself, in units of so many bytes.
pub record AreLeft (unit files : ℕ) (log : ℤ → Log) (left : List (List ℕ)) : Type 0 where
  pub many : length left ≡ files
  pub each : (place : ℕ) → place < files
      → IsImage unit [] (log (pos place)).volume.history (slice_index_or left place [])

-- A power failure may show this of calls: it comes after a history that has begun them, on files that were empty at first. Whatever was posted by then may have been reaped and acknowledged.
pub record MayShow (unit : ℕ) (g : Setup) (calls : List (List Published)) (c : Crash) : Type 0 where
  pub history : History
  pub begun : HasBegun g calls history
  pub posted : (world g history).completions.posted ≡ c.posted
  pub left : AreLeft unit g.files (λ fd. log_of unit g fd history) c.left
