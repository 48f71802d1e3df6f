-- What a walk finds of all that a power failure may show of calls, and why it finds none.
use Rattle.std.specs.Prelude.{◌≡◌, ◌↔◌, ◌<◌, ◌≤◌, ◌^◌, ℕ, pos, List, [], length, Some, Contains}
use Rattle.uring_entry.specs.Setup.{Setup}
use Rattle.uring_entry.specs.Layout.{Sqe}
use Rattle.uring_volume.specs.Listing.{AreTheImages}
use Rattle.uring_crash_machine.specs.Logs.{empty_log}
use Rattle.uring_outcomes.specs.Moments.{Moment, starting, after_moves}
use Rattle.uring_outcomes.specs.declared.move_of_calls.Move.{Move}
use Rattle.uring_outcomes.specs.Faults.{entry_count}
use Rattle.uring_crash_outcomes.specs.Shown.{Crash}
use Rattle.uring_crash_outcomes.specs.Moves.{log_along, CanShow}
use Rattle.uring_crash_outcomes.specs.declared.fault.CrashFault.{CrashFault}
use Rattle.uring_crash_outcomes.specs.declared.fault.CrashFault.TheVariants as fault

-- each is what a power failure may show of the calls
abbrev pub AreCrashes : ℕ → Setup → List (List Sqe) → List Crash → Type 0
AreCrashes unit g calls found = (c : Crash) → Contains found c → CanShow unit g calls c

-- The list has what a power failure may show of the calls, and nothing else.
abbrev pub AreAllCrashes : ℕ → Setup → List (List Sqe) → List Crash → Type 0
AreAllCrashes unit g calls found = (c : Crash) → Contains found c ↔ CanShow unit g calls c

-- After some moves a file may be left in more ways than this.
pub record MayBeMany (unit : ℕ) (g : Setup) (calls : List (List Sqe)) (most : ℕ) : Type 0 where
  pub moves : List Move
  pub last : Moment
  pub leads : after_moves (starting g calls) moves ≡ Some last
  pub fd : ℕ
  pub there : fd < g.files
  pub ways : List (List ℕ)
  pub are : AreTheImages unit [] (log_along moves (starting g calls) (empty_log unit (pos fd))).volume.history ways
  pub many : most < length ways

-- The reasons: memory was refused; the calls have more entries than requests have numbers, 2^63 - 1; or a file may be left in more ways than were asked for.
abbrev pub IsReason : ℕ → Setup → List (List Sqe) → ℕ → CrashFault → Type 0
IsReason unit g calls most fault.Memory = Unit {0}
IsReason unit g calls most fault.Spent = 2 ^ 63 ≤ entry_count calls
IsReason unit g calls most fault.Images = MayBeMany unit g calls most
