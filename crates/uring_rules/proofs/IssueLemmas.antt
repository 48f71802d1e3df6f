-- What an issue and an end make of the drains, and of the requests that are shown.
use Rattle.std.proofs.Common.{◌≡◌, ℕ, ℤ, true, false, not, ◌&&◌, ◌==◌, List, Option, Some, None, length, sym, ◌∙◌, ap, subst, rules}
use Rattle.uring_entry.specs.Requests as manual
use Rattle.uring_entry.specs.Requests.{Requests, has_ended, no_bytes}
use Rattle.uring_entry.proofs.BelowLemmas.{some_below_same}
use Rattle.uring_entry.proofs.RequestLemmas.{list_any_push}
use Rattle.uring_dispatch.specs.Dispatch as manual_dispatch
use Rattle.uring_dispatch.specs.Dispatch.{Dispatch}
use Rattle.uring_dispatch.specs.declared.answers.IssuedPosting.{IssuedPosting}
use Rattle.uring_dispatch.specs.declared.answers.Posts.{Posts}
use Rattle.uring_dispatch.specs.IssueAndFinish as manual_answers
use Rattle.uring_linux.specs.declared.deferred.Deferred.{Deferred}
use Rattle.uring_linux.specs.Drains.{is_in_some, still_deferred}
use Rattle.uring_linux.specs.Issues as linux_answers
use Rattle.uring_linux.specs.LinuxDispatch as linux_dispatch
use Rattle.uring_linux.specs.LinuxDispatch.{LinuxDispatch}
use Rattle.uring_linux.specs.LinuxRequests as linux
use Rattle.uring_linux.specs.LinuxRequests.{LinuxRequests, is_alone}
use Rattle.uring_rules.specs.RulesIssues.{issued, after_issue, after_end, ended_by}

-- Which bytes an end gives makes no difference to the drains.

ended_alike : (r : Requests) (n : ℕ) (res : ℤ) (bytes other : List ℕ) (k : ℕ)
    → has_ended (manual.with_ended r n res bytes) k ≡ has_ended (manual.with_ended r n res other) k
ended_alike r n res bytes other k =
    list_any_push (λ e. e.number == k) r.ended (record { number = n; res = res; bytes = bytes }) ∙ sym (list_any_push (λ e. e.number == k) r.ended (record { number = n; res = res; bytes = other }))

alone_alike : (r : Requests) (n : ℕ) (res : ℤ) (bytes other : List ℕ) (groups : List Deferred)
    → is_alone (manual.with_ended r n res bytes) groups ≡ is_alone (manual.with_ended r n res other) groups
unfolding is_alone
alone_alike r n res bytes other groups =
    ap not (some_below_same (λ k. not (has_ended (manual.with_ended r n res bytes) k) && not (is_in_some groups k)) (λ k. not (has_ended (manual.with_ended r n res other) k) && not (is_in_some groups k)) (length r.accepted)
    (λ k lt. ap (λ b. not b && not (is_in_some groups k)) (ended_alike r n res bytes other k)))

pub end_by_linux : (l : LinuxRequests) (n : ℕ) (res : ℤ) (bytes : List ℕ)
    → linux.with_ended l n res bytes ≡ ended_by true l n res bytes
end_by_linux l n res bytes =
    ap (λ alone. record { requests = manual.with_ended l.requests n res bytes; drains = record l.drains { deferred = still_deferred alone l.drains.deferred } })
    (alone_alike l.requests n res bytes no_bytes l.drains.deferred)

-- what either dispatcher answers to an issue
pub answered_manual : (l : LinuxRequests) (n : ℕ) → manual_answers.issued_posting l.requests n ≡ issued false l n
answered_manual l n = search rules

pub answered_linux : (l : LinuxRequests) (n : ℕ) → linux_answers.issued l n ≡ issued true l n
answered_linux l n = search rules

-- what it shows after one
pub issue_manual : (d : Dispatch) (l : LinuxRequests) (n : ℕ) (a : IssuedPosting)
    → manual_dispatch.ShowsRequests d (manual_answers.after_issue l.requests n (manual_answers.without_posts a))
    → manual_dispatch.ShowsRequests d (after_issue false l n a).requests
issue_manual d l n a h = search rules

pub issue_linux : (d : LinuxDispatch) (l : LinuxRequests) (n : ℕ) (a : IssuedPosting)
    → linux_dispatch.ShowsRequests d (linux_answers.after_issue l n a)
    → linux_dispatch.ShowsRequests d (after_issue true l n a)
issue_linux d l n a h = search rules

-- what it shows after an end
pub end_manual : (d : Dispatch) (l : LinuxRequests) (n : ℕ) (res : ℤ) (bytes : List ℕ) (posted : Option Posts)
    → manual_dispatch.ShowsRequests d (manual_answers.after_end l.requests n res bytes posted)
    → manual_dispatch.ShowsRequests d (after_end false l n res bytes posted).requests
end_manual d l n res bytes None h = h
end_manual d l n res bytes (Some posted) h = h

pub end_linux : (d : LinuxDispatch) (l : LinuxRequests) (n : ℕ) (res : ℤ) (bytes : List ℕ) (posted : Option Posts)
    → linux_dispatch.ShowsRequests d (linux_answers.after_end l n res bytes posted)
    → linux_dispatch.ShowsRequests d (after_end true l n res bytes posted)
end_linux d l n res bytes None h = h
end_linux d l n res bytes (Some posted) h = subst (linux_dispatch.ShowsRequests d) (end_by_linux l n res bytes) h
