-- What the run stands at after each move: an acceptance, an issue that starts its request or ends it, and a finish.
use Rattle.std.proofs.Common.{◌≡◌, ℕ, ◌+◌, ◌<◌, ◌≤◌, ℤ, true, List, [], length, drop, get_or, Option, Some, None, refl, sym, subst, ap, ap₂, ◌∙◌, arith}
use Rattle.std.specs.Borrow.{Bor}
use Rattle.std.specs.Slice.{IsItemAt}
use Rattle.uring_outcomes.proofs.Common.{Dispatch, FinishCounts, Global, IsForFiles, MadeAs, Moment, Move, Op, Outcome, Requests, Run, Setup, ShowsRequests, Sqe, StandsAt, Vec, after, empty_files, ended_at_once, entries_of, entry_of, entry_outstanding, finished, is_running, moved, no_bytes, no_request, operation_of, operation_running, posted_with, result_of, started, starting, with_call, with_ended, with_issued_end, with_started}
use Rattle.uring_dispatch.specs.IssueAndFinish as asked
use Rattle.uring_dispatch.specs.declared.answers.Issued.TheVariants as answer
use Rattle.uring_dispatch.specs.declared.answers.Finished.{Finished}
use Rattle.uring_outcomes.specs.declared.move_of_calls.Move.TheVariants as move
use Rattle.uring_outcomes.proofs.SoundMoments.{asks_files}
use Rattle.uring_outcomes.proofs.Moving.{reached_on, sound_at, issue_moves, entry_told, accept_moves, runs_told, finish_moves}

-- The run stands at the moment after a move.
pub stands_after : (calls : List (List Sqe)) (old new : Run) (m next : Moment) (x : Move)
    → StandsAt calls old m → moved m x ≡ Some next
    → ShowsRequests new.dispatch next.requests → new.dispatch.is_between_calls ≡ true
    → new.posted.items ≡ next.posted → new.files ≡ next.files → next.left ≡ drop new.next_call calls
    → MadeAs true (moved m x) (StandsAt calls new)
stands_after calls old new m next x at is requests between posted files left = grind (arith, reached_on)

-- a new run stands at the start
pub starts : (calls : List (List Sqe)) (g : Setup) (run : Run) (count : ℕ) → g.files ≡ count → count ≤ 64
    → ShowsRequests run.dispatch no_request → run.dispatch.is_between_calls ≡ true
    → run.posted.items ≡ [] → run.files ≡ empty_files count → run.next_call ≡ 0
    → StandsAt calls run (starting g calls)
starts calls g run count same few shows between posted files next = record {
  reached = record { setup = g; few_files = omega arith; moves = []; leads = refl };
  requests = shows;
  between = between;
  posted = posted;
  files = files ∙ ap empty_files (sym same);
  left = ap (λ k. drop k calls) (sym next);
}

pub accepts : (calls : List (Vec Sqe Global)) (old new : Run) (m : Moment) (call : Vec Sqe Global)
    → StandsAt (entries_of calls) old m → old.next_call < length calls
    → call ≡ get_or calls old.next_call call
    → ShowsRequests new.dispatch (with_call m.requests call.items)
    → new.dispatch.is_between_calls ≡ true → new.posted.items ≡ old.posted.items
    → new.files ≡ old.files → new.next_call ≡ old.next_call + 1
    → MadeAs true (moved m move.Accept) (StandsAt (entries_of calls) new)
accepts calls old new m call at low is shows between posted files next =
    stands_after (entries_of calls) old new m (record m { requests = with_call m.requests call.items; left = drop (old.next_call + 1) (entries_of calls) }) move.Accept at
    (accept_moves calls m old.next_call call at.left low is)
    shows between (posted ∙ at.posted) (files ∙ at.files) (ap (λ k. drop k (entries_of calls)) (sym next))

-- An issue.

pub issue_starts : (calls : List (List Sqe)) (old new : Run) (m : Moment) (n : ℕ) (op : Op)
    → StandsAt calls old m → answer.Run op ≡ asked.issued m.requests n
    → ShowsRequests new.dispatch (with_started m.requests n)
    → new.dispatch.is_between_calls ≡ true → new.posted.items ≡ old.posted.items
    → new.files ≡ old.files → new.next_call ≡ old.next_call
    → MadeAs true (moved m (move.Issue n)) (StandsAt calls new)
issue_starts calls old new m n op at is shows between posted files next =
    stands_after calls old new m (started m n) (move.Issue n) at (issue_moves m n (answer.Run op) is)
    shows between (posted ∙ at.posted) (files ∙ at.files) (at.left ∙ ap (λ k. drop k calls) (sym next))

pub issue_ends : (calls : List (List Sqe)) (old new : Run) (m : Moment) (n : ℕ) (res : ℤ) (entry : Sqe)
    → StandsAt calls old m → answer.Ended res ≡ asked.issued m.requests n
    → Some entry ≡ entry_outstanding m.requests n
    → ShowsRequests new.dispatch (with_issued_end m.requests n res)
    → new.dispatch.is_between_calls ≡ true
    → new.posted.items ≡ posted_with old.posted.items entry res no_bytes
    → new.files ≡ old.files → new.next_call ≡ old.next_call
    → MadeAs true (moved m (move.Issue n)) (StandsAt calls new)
issue_ends calls old new m n res entry at is told shows between posted files next =
    stands_after calls old new m (ended_at_once m n res) (move.Issue n) at (issue_moves m n (answer.Ended res) is)
    shows between
    (posted ∙ ap₂ (λ ps e. posted_with ps e res no_bytes) at.posted (entry_told m.requests n entry told))
    (files ∙ at.files) (at.left ∙ ap (λ k. drop k calls) (sym next))

-- A finish.

-- what runs can be asked of files
pub running_asks : (calls : List (List Sqe)) (run : Run) (n : ℕ) (op : Op) (m : Moment) → StandsAt calls run m
    → Some op ≡ operation_running m.requests n → IsForFiles op
running_asks calls run n op m at is = grind (arith, (sound_at calls m at.reached), asks_files)

-- and has an entry
pub running_told : (calls : List (List Sqe)) (run : Run) (n : ℕ) (op : Op) (told : Option Sqe) (m : Moment) → StandsAt calls run m
    → Some op ≡ operation_running m.requests n → told ≡ entry_outstanding m.requests n → None ≡ told → ⊥
running_told calls run n op told m at is told_so none =
    grind (arith, (runs_told m.requests n op is), (sound_at calls m at.reached))

-- the requests after a finish with this answer
shows_ended : (r : Requests) (n : ℕ) (o : Outcome) (a : Finished) (d : Dispatch) → is_running r n ≡ true
    → a ≡ asked.finished r n → ShowsRequests d (asked.after_finish r n o a)
    → ShowsRequests d (with_ended r n o.res o.bytes)
shows_ended r n o a d running is shows = grind arith

pub finishes : (calls : List (List Sqe)) (old new : Run) (m : Moment) (n : ℕ) (op : Op) (entry : Sqe) (o : Outcome) (a : Finished)
    → StandsAt calls old m → Some op ≡ operation_running m.requests n
    → Some entry ≡ entry_outstanding m.requests n
    → o ≡ result_of old.files op → a ≡ asked.finished m.requests n
    → ShowsRequests new.dispatch (asked.after_finish m.requests n o a)
    → new.dispatch.is_between_calls ≡ true
    → new.posted.items ≡ posted_with old.posted.items entry o.res o.bytes
    → new.files ≡ after old.files op o.res → new.next_call ≡ old.next_call
    → MadeAs true (moved m (move.Finish n)) (StandsAt calls new)
finishes calls old new m n op entry o a at is told called answered shows between posted files next =
    let r : Requests = m.requests in
    let runs = runs_told r n op is in
    let right : Op = operation_of (entry_of r n) in
    let as_called : o ≡ result_of m.files right = called ∙ ap₂ result_of at.files runs.1 in
    let ended : ShowsRequests new.dispatch (with_ended r n o.res o.bytes) = shows_ended r n o a new.dispatch runs.0 answered shows in
    stands_after calls old new m (finished m n) (move.Finish n) at (finish_moves m n (sound_at calls m at.reached) runs.0)
    (subst (λ (x : Outcome). ShowsRequests new.dispatch (with_ended r n x.res x.bytes)) as_called ended)
    between
    (posted ∙ ap₂ (λ ps e. posted_with ps e o.res o.bytes) at.posted (entry_told r n entry told) ∙ ap (λ (x : Outcome). posted_with m.posted (entry_of r n) x.res x.bytes) as_called)
    (files ∙ ap₂ (λ fs x. after fs x o.res) at.files runs.1 ∙ ap (λ (x : Outcome). after m.files right x.res) as_called)
    (at.left ∙ ap (λ k. drop k calls) (sym next))

-- a finish leaves the dispatcher between calls
pub finish_between : (a : Finished) (old new : Dispatch) → FinishCounts a old new
    → old.is_between_calls ≡ true → new.is_between_calls ≡ true
finish_between a old new counts between = grind arith

-- the call that is got
pub call_there : (calls : List (Vec Sqe Global)) (k : ℕ) (call : Bor (Vec Sqe Global))
    → IsItemAt calls k (Some call) → (k < length calls) × (call.now ≡ get_or calls k call.now)
call_there calls k call is = grind arith
