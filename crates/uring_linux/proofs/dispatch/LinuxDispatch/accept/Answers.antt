use Rattle.std.proofs.Common.{◌==◌, ◌≡◌, ◌+◌, ◌-◌, ◌<◌, false, arith, sym, ◌∙◌, ap, subst}
use Rattle.uring_linux.proofs.Common.{HasAccepted, LinuxDispatch, ShowsRequests, dispatch_of}
use Rattle.uring_linux.proofs.Dispatches.{dispatch_accepted}
use Rattle.uring_linux.proofs.WindowCounts.{count_within, unended_counts}
use Rattle.uring_linux.proofs.Tallies.{accepted_counts, accepted_dispatch}
use Rattle.uring_linux.proofs.dispatch.LinuxDispatch.accept.Goals as goal

pub returns-clause-shows : goal.returns-clause-shows
returns-clause-shows c = λ l h.
    dispatch_accepted c.self.inside.window c.push.new.self c.self.inside.drains c.accept.new.self c.self.inside.has_skipped c.has_skipped-self-inside.result c.self.inside.room _ c.self.inside.is_between_calls _
    c.args.entry c.new_request-request.result l (c.from.result == c.end-n.result) c.end-n.result
    (subst (λ (d : LinuxDispatch). ShowsRequests d l) (sym c.self.view_is) h) c.has_skipped-self-inside.ensures c.new_request-request.ensures c.push.ensures.shows
    (ap (λ x. x == c.end-n.result) c.from.ensures ∙ ap (λ x. c.self.inside.drains.drains.from == x) c.end-n.ensures.value)
    c.accept.ensures.drains

pub overflow_add-self : goal.overflow_add-self
overflow_add-self c =
    let few = count_within unended_counts c.self.inside.window.items in
    omega (arith, c.self.invariant.outstanding, c.end-n.ensures.limit, c.end-n.ensures.value)

pub invariant_of-self : goal.invariant_of-self
invariant_of-self c =
    let room = ap (λ (d : LinuxDispatch). d.room) c.self.view_is in
    let some : 0 < c.self.inside.room = omega (arith, c.requires) in
    accepted_dispatch c.self.inside.window c.push.new.self c.self.inside.drains c.accept.new.self c.self.inside.outstanding c.self.inside.running c.self.inside.room _ c.self.inside.is_between_calls c.has_skipped-self-inside.result c.args.entry c.new_request-request.result
    c.end-n.result c.self.invariant c.push.ensures.first c.push.ensures.end c.push.ensures.outstanding c.push.ensures.running c.new_request-request.ensures c.push.ensures.room (omega arith)
    c.accept.ensures.linked c.accept.ensures.from_linked c.accept.ensures.closed c.accept.ensures.room c.accept.ensures.few

pub returns-clause-counts : goal.returns-clause-counts
returns-clause-counts c =
    let room = ap (λ (d : LinuxDispatch). d.room) c.self.view_is in
    let left : (c.self.inside.room - 1) + 1 ≡ c.self.inside.room = omega (arith, c.requires) in
    subst (λ (d : LinuxDispatch). HasAccepted d (dispatch_of c.push.new.self c.accept.new.self c.has_skipped-self-inside.result (c.self.inside.room - 1) false)) c.self.view_is
    (accepted_counts c.self.inside.window c.push.new.self c.self.inside.drains c.accept.new.self c.self.inside.has_skipped c.has_skipped-self-inside.result c.self.inside.room (c.self.inside.room - 1) c.self.inside.is_between_calls false
    c.args.entry c.new_request-request.result c.end-n.result c.push.ensures.end c.push.ensures.outstanding c.push.ensures.running c.new_request-request.ensures left)
