-- Glue. What the issue and the end of a request are answered by the rules of a set-up, and what becomes of the requests by it.
use Rattle.std.specs.Prelude.{ℕ, ℤ, Bool, not, List, Option, Some, None, if◌then◌else◌}
use Rattle.uring_entry.specs.Layout.{user_data_of}
use Rattle.uring_entry.specs.Preparation.{is_cancel, operation_of}
use Rattle.uring_entry.specs.Requests as manual
use Rattle.uring_entry.specs.Requests.{Requests, entry_of, is_outstanding, is_running}
use Rattle.uring_dispatch.specs.declared.answers.Posts.{Posts}
use Rattle.uring_dispatch.specs.declared.answers.Posts.TheVariants.{Completion, Nothing}
use Rattle.uring_linux.specs.LinuxRequests.{LinuxRequests, with_started}
use Rattle.uring_dispatch.specs.declared.answers.IssuedPosting.{IssuedPosting}
use Rattle.uring_dispatch.specs.declared.answers.IssuedPosting.TheVariants.{Run, Ended, NotReady, Running, Unknown}
use Rattle.uring_rules.specs.Rules.{ends_doomed, doomed_result, may_start, cancel_result, posts, with_issued_end, drains_ended}

-- what the end of n with this result posts
abbrev pub posts_of : (is_linux : Bool) → Requests → ℕ → ℤ → Posts
posts_of is_linux r n res =
    if posts is_linux r n res then Completion (user_data_of (entry_of r n)) else Nothing

-- n ends as it is issued, with this result
abbrev pub ended_with : (is_linux : Bool) → Requests → ℕ → ℤ → IssuedPosting
ended_with is_linux r n res = Ended res (posts_of is_linux r n res)

-- what the issue of a request is answered that was not started
abbrev pub issued_waiting : (is_linux : Bool) → LinuxRequests → ℕ → IssuedPosting
issued_waiting is_linux l n =
    if ends_doomed is_linux l.requests n
    then ended_with is_linux l.requests n (doomed_result is_linux l.requests n) else
    if not (may_start is_linux l n) then NotReady else
    if is_cancel (entry_of l.requests n)
    then ended_with is_linux l.requests n (cancel_result is_linux l.requests n) else
    Run (operation_of (entry_of l.requests n))

-- what the issue of n is answered. The order of the tests is our own rule
abbrev pub issued : (is_linux : Bool) → LinuxRequests → ℕ → IssuedPosting
issued is_linux l n =
    if not (is_outstanding l.requests n) then Unknown else
    if is_running l.requests n then Running else
    issued_waiting is_linux l n

-- the requests after n ended with this result as it was issued
abbrev pub ended_at_issue : (is_linux : Bool) → LinuxRequests → ℕ → ℤ → LinuxRequests
ended_at_issue is_linux l n res = record {
  requests = with_issued_end is_linux l.requests n res;
  drains = drains_ended is_linux l n res;
}

-- the requests after n was issued with this answer
abbrev pub after_issue : (is_linux : Bool) → LinuxRequests → ℕ → IssuedPosting → LinuxRequests
after_issue is_linux l n (Run op) = with_started l n
after_issue is_linux l n (Ended res posted) = ended_at_issue is_linux l n res
after_issue is_linux l n _ = l

-- what the end of n with this result posts, if n is running
abbrev pub posted_by : (is_linux : Bool) → LinuxRequests → ℕ → ℤ → Option Posts
posted_by is_linux l n res =
    if is_running l.requests n then Some (posts_of is_linux l.requests n res) else None

-- the requests after n, which was running, ended with this result and these bytes
abbrev pub ended_by : (is_linux : Bool) → LinuxRequests → ℕ → ℤ → List ℕ → LinuxRequests
ended_by is_linux l n res bytes = record {
  requests = manual.with_ended l.requests n res bytes;
  drains = drains_ended is_linux l n res;
}

-- the requests after n ended so, if it was running
abbrev pub after_end : (is_linux : Bool) → LinuxRequests → ℕ → ℤ → List ℕ → Option Posts → LinuxRequests
after_end is_linux l n res bytes None = l
after_end is_linux l n res bytes (Some posted) = ended_by is_linux l n res bytes
