-- Glue. What the dispatcher answers, and what becomes of the requests by it.
use Rattle.std.specs.Prelude.{ℕ, ℤ, not, List, Option, Some, None, if◌then◌else◌}
use Rattle.uring_entry.specs.Layout.{user_data_of}
use Rattle.uring_entry.specs.Preparation.{is_cancel, operation_of}
use Rattle.uring_entry.specs.Requests.{Requests, entry_of, is_outstanding, is_running, no_bytes}
use Rattle.uring_dispatch.specs.declared.answers.Posts.{Posts}
use Rattle.uring_dispatch.specs.declared.answers.Posts.TheVariants.{Completion, Nothing}
use Rattle.uring_dispatch.specs.declared.answers.IssuedPosting.{IssuedPosting}
use Rattle.uring_dispatch.specs.declared.answers.IssuedPosting.TheVariants.{Run, Ended, NotReady, Running, Unknown}
use Rattle.uring_linux.specs.LinuxRequests.{LinuxRequests, is_in_turn, is_doomed, is_deferred, doomed_result, cancel_result, posts_after, breaker_of, with_started, with_ended}

-- what the end of n with this result posts, which this one's failure brought about or nobody's
abbrev pub posts_as : Requests → Option ℕ → ℕ → ℤ → Posts
posts_as r breaker n res =
    if posts_after r breaker n res then Completion (user_data_of (entry_of r n)) else Nothing

-- what the end of n with this result posts
abbrev pub posts_of : Requests → ℕ → ℤ → Posts
posts_of r n res = posts_as r (breaker_of r n) n res

-- n ends as it is issued, with this result
abbrev pub ended_with : Requests → ℕ → ℤ → IssuedPosting
ended_with r n res = Ended res (posts_of r n res)

-- what the issue of a request is answered that may start
abbrev pub issued_ready : Requests → ℕ → IssuedPosting
issued_ready r n =
    if is_cancel (entry_of r n) then ended_with r n (cancel_result r n) else
    Run (operation_of (entry_of r n))

-- what the issue of a request is answered that was not started
abbrev pub issued_waiting : LinuxRequests → ℕ → IssuedPosting
issued_waiting l n =
    if not (is_in_turn l.requests n) then NotReady else
    if is_doomed l.requests n then ended_with l.requests n (doomed_result l.requests n) else
    if is_deferred l n then NotReady else
    issued_ready l.requests n

-- what the issue of n is answered. The order of the tests is our own rule
abbrev pub issued : LinuxRequests → ℕ → IssuedPosting
issued l n =
    if not (is_outstanding l.requests n) then Unknown else
    if is_running l.requests n then Running else
    issued_waiting l n

-- the requests after n was issued with this answer
abbrev pub after_issue : LinuxRequests → ℕ → IssuedPosting → LinuxRequests
after_issue l n (Run op) = with_started l n
after_issue l n (Ended res posted) = with_ended l n res no_bytes
after_issue l n _ = l

-- what the end of n with this result posts, if n is running
abbrev pub posted_by : LinuxRequests → ℕ → ℤ → Option Posts
posted_by l n res = if is_running l.requests n then Some (posts_of l.requests n res) else None

-- the requests after n ended so, if it was running
abbrev pub after_end : LinuxRequests → ℕ → ℤ → List ℕ → Option Posts → LinuxRequests
after_end l n res bytes None = l
after_end l n res bytes (Some posted) = with_ended l n res bytes
