-- What calls may come to, move by move: what rings, slots, words and tails do is left out of it, since it changes nothing of this.
use Rattle.std.specs.Prelude.{ℕ, ℤ, Bool, ◌&&◌, nat_lt, List, [], ◌∷◌, ◌++◌, length, Option, Some, None, if◌then◌else◌}
use Rattle.std.specs.Option.{option_and_then}
use Rattle.uring_entry.specs.Setup.{Setup}
use Rattle.uring_entry.specs.Layout.{Sqe, Cqe}
use Rattle.uring_entry.specs.Preparation.{is_cancel, operation_of}
use Rattle.uring_entry.specs.Success.{posts_completion}
use Rattle.uring_entry.specs.Requests.{Requests, no_request, entry_of, is_running, is_issuable, is_doomed, doomed_result, cancel_result, no_bytes, with_call, with_started, with_ended, with_issued_end}
use Rattle.uring_entry.specs.Completions.{completion_for}
use Rattle.uring_entry.specs.declared.operation.Op.{Op}
use Rattle.uring_entry.specs.declared.operation.Outcome.{Outcome}
use Rattle.uring_files.specs.Contents.{FileContents, empty_files}
use Rattle.uring_files.specs.Operations.{after, result_of}
use Rattle.uring_outcomes.specs.declared.move_of_calls.Move.{Move}
use Rattle.uring_outcomes.specs.declared.move_of_calls.Move.TheVariants as move

-- A moment: what has become of the requests so far, the completions posted, the files, and the calls that are left, each with the entries that it accepts.
pub record Moment : Type 0 where
  pub requests : Requests
  pub posted : List Cqe
  pub files : List FileContents
  pub left : List (List Sqe)

-- before anything was accepted
abbrev pub starting : Setup → List (List Sqe) → Moment
starting g calls = record {
  requests = no_request;
  posted = [];
  files = empty_files g.files;
  left = calls;
}

-- what is posted by the end of a request of this entry with this result and these bytes
abbrev pub posted_with : List Cqe → Sqe → ℤ → List ℕ → List Cqe
posted_with posted entry res bytes =
    if posts_completion entry res then posted ++ completion_for entry res bytes ∷ [] else posted

-- What each move makes of a moment.

-- the next call is accepted, if one is left
abbrev pub accepted : Moment → List (List Sqe) → Option Moment
accepted m [] = None
accepted m (call ∷ later) =
    Some (record m { requests = with_call m.requests call; left = later })

-- a request starts
abbrev pub started : Moment → ℕ → Moment
started m n = record m { requests = with_started m.requests n }

-- a request ends as it is issued
abbrev pub ended_at_once : Moment → ℕ → ℤ → Moment
ended_at_once m n res =
    record m {
      requests = with_issued_end m.requests n res;
      posted = posted_with m.posted (entry_of m.requests n) res no_bytes;
    }

-- a request is issued: a doomed one ends, a cancel is carried out, and another starts
abbrev pub issued : Moment → ℕ → Moment
issued m n =
    if is_doomed m.requests n then ended_at_once m n (doomed_result m.requests n) else
    if is_cancel (entry_of m.requests n) then ended_at_once m n (cancel_result m.requests n) else
    started m n

-- a request ends that ran an operation with this outcome
abbrev pub ended_with : Moment → ℕ → Op → Outcome → Moment
ended_with m n op outcome =
    record m {
      requests = with_ended m.requests n outcome.res outcome.bytes;
      posted = posted_with m.posted (entry_of m.requests n) outcome.res outcome.bytes;
      files = after m.files op outcome.res;
    }

-- a running request ends, as its operation calls for on the files that there are
abbrev pub finished : Moment → ℕ → Moment
finished m n =
    ended_with m n (operation_of (entry_of m.requests n)) (result_of m.files (operation_of (entry_of m.requests n)))

-- whether a request can be finished: it was accepted and is running
abbrev pub is_finishable : Requests → ℕ → Bool
is_finishable r n = nat_lt n (length r.accepted) && is_running r n

-- The moment after a move, if it can be made: a call can be accepted if one is left, a request issued if it can be issued, and finished if it runs.
abbrev pub moved : Moment → Move → Option Moment
moved m move.Accept = accepted m m.left
moved m (move.Issue n) = if is_issuable m.requests n then Some (issued m n) else None
moved m (move.Finish n) = if is_finishable m.requests n then Some (finished m n) else None

-- the moment after these moves, made one after the other, if each can be made
abbrev pub after_moves : Moment → List Move → Option Moment
after_moves m [] = Some m
after_moves m (first ∷ later) = option_and_then (λ n. after_moves n later) (moved m first)
