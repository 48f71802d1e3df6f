-- What all the steps so far have made: the three records of lists, how the drains stand by Linux's rules, and whether the ring is closed.
use Rattle.std.specs.Prelude.{ℕ, ℤ, List, Bool, true, false, ◌||◌, Option, Some, None, length, if◌then◌else◌}
use Rattle.uring_entry.specs.Setup.{Setup}
use Rattle.uring_entry.specs.Layout.{Sqe}
use Rattle.uring_entry.specs.Submission.{Submission, Call, no_submission, entries_from, with_filled, with_staged, with_published, with_head_loaded, with_begun, with_taken, with_stopped, with_closed}
use Rattle.uring_entry.specs.Requests.{Requests, no_request, entry_of, with_call, with_started, with_ended, no_bytes}
use Rattle.uring_entry.specs.Completions.{Completions, no_completion, with_posted, completion_for, with_flushed, with_tail_loaded, with_reaped, with_head_stored}
use Rattle.uring_linux.specs.Drains.{Drains, no_drains}
use Rattle.uring_linux.specs.LinuxRequests.{LinuxRequests, asks_to_skip}
use Rattle.uring_rules.specs.Rules.{posts, with_issued_end, drains_called, drains_ended}
use Rattle.uring_core.specs.Stops.{taken_entries, some_skips, stops_after, stops_at_word}
use Rattle.uring_core.specs.declared.step.Step.{Step}
use Rattle.uring_core.specs.declared.step.Step.TheVariants as step
use Rattle.uring_core.specs.declared.answer.Answer.{Answer}
use Rattle.uring_core.specs.declared.answer.Answer.TheVariants as answer

pub record World : Type 0 where
  pub submission : Submission
  pub requests : Requests
  -- how the drains stand, in a ring of Linux's rules; in another nothing is kept of them
  pub drains : Drains
  pub completions : Completions
  pub is_closed : Bool

-- nothing has happened
abbrev pub at_first : World
at_first = record {
  submission = no_submission;
  requests = no_request;
  drains = no_drains;
  completions = no_completion;
  is_closed = false;
}

-- the requests, with how the drains stand
abbrev pub requests_of : World → LinuxRequests
requests_of w = record { requests = w.requests; drains = w.drains }

-- A step that was refused, or only answers, makes nothing. What each other makes, by its answer:

abbrev pub filling : World → ℕ → Sqe → Answer → World
filling w slot entry answer.Filled = record w { submission = with_filled w.submission slot entry }
filling w slot entry _ = w

abbrev pub staging : World → ℕ → Answer → World
staging w word answer.Staged = record w { submission = with_staged w.submission word }
staging w word _ = w

abbrev pub beginning : World → ℕ → Answer → World
beginning w count (answer.Call length) = record w { submission = with_begun w.submission count }
beginning w count _ = w

-- the open call takes a position, and stops after it or not
abbrev pub taking_on : World → (stops : Bool) → Call → World
taking_on w stops call =
    record w { submission = with_stopped stops (with_taken w.submission call) }

-- the open call takes a word that names no slot, if a call is open
abbrev pub taking_of : Setup → World → Option Call → World
taking_of g w None = w
taking_of g w (Some call) = taking_on w (stops_at_word g) call

-- whether the open call stops after this entry
abbrev pub stops_there : Setup → Submission → Sqe → Bool
stops_there g l entry = stops_after g (some_skips (taken_entries l) || asks_to_skip entry) entry

-- the open call takes this entry
abbrev pub taking_entry_of : Setup → World → Sqe → Option Call → World
taking_entry_of g w entry None = w
taking_entry_of g w entry (Some call) = taking_on w (stops_there g w.submission entry) call

-- a position was taken: an entry, or a word that names no slot
abbrev pub taking : Setup → World → Answer → World
taking g w (answer.Entry entry) = taking_entry_of g w entry w.submission.call
taking g w answer.Dropped = taking_of g w w.submission.call
taking g w _ = w

-- the open call closes, and the entries that it took are accepted
abbrev pub ending_of : Setup → World → Option Call → World
ending_of g w None = w
ending_of g w (Some call) =
    record w {
      submission = with_closed w.submission call;
      requests = with_call w.requests (entries_from w.submission call.count);
      drains = drains_called g.linux (requests_of w) (entries_from w.submission call.count);
    }

abbrev pub ending : Setup → World → Answer → World
ending g w (answer.Taken accepted dropped head) = ending_of g w w.submission.call
ending g w _ = w

-- the end of n with this result and these bytes: its completion is posted, if by the rules of the set-up it posts one. io_uring(7), DESCRIPTION, and io_uring_enter(2), IOSQE_CQE_SKIP_SUCCESS
abbrev pub with_end_of : Setup → World → ℕ → ℤ → List ℕ → Completions
with_end_of g w n res bytes =
    if posts g.linux w.requests n res
    then with_posted g.cq w.completions (completion_for (entry_of w.requests n) res bytes)
    else w.completions

-- a request runs, or ends as it is issued
abbrev pub issuing : Setup → World → ℕ → Answer → World
issuing g w n answer.Run = record w { requests = with_started w.requests n }
issuing g w n (answer.Ended res bytes) =
    record w {
      requests = with_issued_end g.linux w.requests n res;
      drains = drains_ended g.linux (requests_of w) n res;
      completions = with_end_of g w n res no_bytes;
    }
issuing g w n _ = w

-- a running request ends
abbrev pub finishing : Setup → World → ℕ → Answer → World
finishing g w n (answer.Ended res bytes) =
    record w {
      requests = with_ended w.requests n res bytes;
      drains = drains_ended g.linux (requests_of w) n res;
      completions = with_end_of g w n res bytes;
    }
finishing g w n _ = w

abbrev pub reaping : World → Answer → World
reaping w (answer.Reaped completion) =
    record w { completions = with_reaped w.completions completion }
reaping w _ = w

abbrev pub closing : World → Answer → World
closing w answer.Shut = record w { is_closed = true }
closing w _ = w

-- What a step and its answer make of what there was.
abbrev pub happens : Setup → World → Step → Answer → World
happens g w (step.Fill slot entry) a = filling w slot entry a
happens g w (step.Index word) a = staging w word a
happens g w step.StoreTail a = record w { submission = with_published g.sq w.submission }
happens g w step.LoadHead a = record w { submission = with_head_loaded w.submission }
happens g w (step.Begin count) a = beginning w count a
happens g w step.Take a = taking g w a
happens g w step.End a = ending g w a
happens g w (step.Issue n) a = issuing g w n a
happens g w (step.Finish n) a = finishing g w n a
happens g w step.Flush a = record w { completions = with_flushed g.cq w.completions }
happens g w step.LoadCqTail a = record w { completions = with_tail_loaded w.completions }
happens g w step.Reap a = reaping w a
happens g w step.StoreCqHead a = record w { completions = with_head_stored w.completions }
happens g w step.Close a = closing w a
happens g w step.Next a = w
