-- Requests stand as they do, by either's rules, whatever bytes they ended with.
use Rattle.std.proofs.Common.{◌≡◌, ℕ, ℤ, Bool, true, false, List, ◌++◌, map, refl, ap, ◌∙◌}
use Rattle.uring_effect_points.proofs.Common.{Ending, Requests, Setup, Sqe, World, drains_called, drains_ended, issue_answer, next_of, no_bytes, posts, requests_of, with_issued_end}
use Rattle.uring_entry.specs.Requests as manual
use Rattle.uring_linux.specs.LinuxRequests.{LinuxRequests, after_going_on}
use Rattle.uring_linux.specs.declared.deferred.Deferred.{Deferred}
use Rattle.uring_laws.proofs.AlikeRequests.{chosen_same}
use Rattle.uring_laws.proofs.AlikeDrains.{called_same, going_same}
use Rattle.uring_laws.proofs.AlikeLinux as kernel
use Rattle.uring_laws.proofs.AlikeRules as alike
use Rattle.uring_laws.proofs.Alike as worlds
use Rattle.uring_effect_points.proofs.BlankRequests.{blank_end, blank_requests, blank_same, ends_same}

abbrev pub blank_linux : LinuxRequests → LinuxRequests
blank_linux l = record l { requests = blank_requests l.requests }

pub next_same : (linux : Bool) (l : LinuxRequests) → next_of linux (blank_linux l) ≡ next_of linux l
next_same linux l =
    let r : Requests = l.requests in
    alike.next_of_same l r.started r.cancelled (map blank_end r.ended) (blank_same r) linux l.drains (λ is. refl)

-- an issue is answered as it is, in a world of these requests without their bytes
pub issue_same : (g : Setup) (w v : World) (n : ℕ) → requests_of v ≡ blank_linux (requests_of w)
    → issue_answer g v n ≡ issue_answer g w n
issue_same g w v n is =
    let r : Requests = w.requests in
    ap (λ (l : LinuxRequests). issue_answer g (record w { requests = l.requests; drains = l.drains }) n) is
    ∙ worlds.issue_same g w r.started r.cancelled (map blank_end r.ended) w.drains (blank_same r) (λ linux. refl) n

-- ---- what is made of them

pub posts_same : (linux : Bool) (r : Requests) (n : ℕ) (res : ℤ) → posts linux (blank_requests r) n res ≡ posts linux r n res
posts_same true r n res = kernel.posts_same r r.started r.cancelled (map blank_end r.ended) (blank_same r) n res
posts_same false r n res = refl

pub issued_same : (linux : Bool) (r : Requests) (n : ℕ) (res : ℤ)
    → with_issued_end linux (blank_requests r) n res ≡ blank_requests (with_issued_end linux r n res)
issued_same true r n res = λ i. record {
  accepted = r.accepted;
  cuts = r.cuts;
  started = r.started;
  cancelled = r.cancelled;
  ended = ends_same r.ended n res no_bytes i;
}
issued_same false r n res = λ i. record {
  accepted = r.accepted;
  cuts = r.cuts;
  started = r.started;
  cancelled = r.cancelled ++ chosen_same r r.started r.cancelled (map blank_end r.ended) (blank_same r) n res i;
  ended = ends_same r.ended n res no_bytes i;
}

pub drains_called_same : (linux : Bool) (l : LinuxRequests) (es : List Sqe) → drains_called linux (blank_linux l) es ≡ drains_called linux l es
drains_called_same true l es =
    let r : Requests = l.requests in
    called_same l r.started r.cancelled (map blank_end r.ended) (blank_same r).ended es
drains_called_same false l es = refl

pub drains_ended_same : (linux : Bool) (l : LinuxRequests) (n : ℕ) (res : ℤ) → drains_ended linux (blank_linux l) n res ≡ drains_ended linux l n res
drains_ended_same true l n res =
    let r : Requests = l.requests in
    let q : Requests = manual.with_ended r n res no_bytes in
    ap (λ (es : List Ending). record l.drains { deferred = after_going_on (record r { ended = es }) l.drains.deferred }) (ends_same r.ended n res no_bytes)
    ∙ ap (λ (gs : List Deferred). record l.drains { deferred = gs }) (going_same q q.started q.cancelled (map blank_end q.ended) (blank_same q).ended l.drains.deferred)
drains_ended_same false l n res = refl
