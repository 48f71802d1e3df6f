-- What a power failure may show of calls, by moves: it comes after any that can be made, each list of them by itself. None can be left out: a request that has started, and hasn't ended, may have left any part of its bytes.
use Rattle.std.specs.Prelude.{◌≡◌, ℕ, ◌||◌, List, [], ◌∷◌, Option, Some, None, if◌then◌else◌}
use Rattle.uring_entry.specs.Setup.{Setup}
use Rattle.uring_entry.specs.Layout.{Sqe}
use Rattle.uring_entry.specs.Preparation.{is_cancel, operation_of}
use Rattle.uring_entry.specs.Requests.{entry_of, is_doomed}
use Rattle.uring_files.specs.Operations.{result_of}
use Rattle.uring_crash_machine.specs.Logs.{Log, empty_log, begun, finished}
use Rattle.uring_outcomes.specs.Moments.{Moment, starting, moved, after_moves}
use Rattle.uring_outcomes.specs.declared.move_of_calls.Move.{Move}
use Rattle.uring_outcomes.specs.declared.move_of_calls.Move.TheVariants as move
use Rattle.uring_crash_outcomes.specs.Shown.{Crash, AreLeft}

-- what a move makes of the log of a file: a request that starts begins there, and one that is finished ends there
abbrev pub log_moved : Moment → Move → Log → Log
log_moved m move.Accept log = log
log_moved m (move.Issue n) log =
    if is_doomed m.requests n || is_cancel (entry_of m.requests n) then log
    else begun n (operation_of (entry_of m.requests n)) log
log_moved m (move.Finish n) log =
    finished n (operation_of (entry_of m.requests n)) (result_of m.files (operation_of (entry_of m.requests n))).res log

-- what is made of the moment after a move, if there is one, and else this log
abbrev pub log_past : (Moment → Log) → Log → Option Moment → Log
log_past go log None = log
log_past go log (Some next) = go next

-- what moves make of it, made one after the other as far as each can be made
abbrev pub log_along : List Move → Moment → Log → Log
log_along [] m log = log
log_along (first ∷ later) m log =
    log_past (λ next. log_along later next (log_moved m first log)) log (moved m first)

-- Moves lead calls to what a power failure shows: what they have posted, and files that may be left of what they did to them.
pub record CanShow (unit : ℕ) (g : Setup) (calls : List (List Sqe)) (c : Crash) : Type 0 where
  pub moves : List Move
  pub last : Moment
  pub leads : after_moves (starting g calls) moves ≡ Some last
  pub posts : last.posted ≡ c.posted
  pub left : AreLeft unit g.files (λ fd. log_along moves (starting g calls) (empty_log unit fd)) c.left
