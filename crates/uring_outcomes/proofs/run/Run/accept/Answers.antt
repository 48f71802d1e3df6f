use Rattle.std.proofs.Common.{◌+◌, suc, Err, refl, ap, subst, arith}
use Rattle.uring_outcomes.proofs.Common.{ShowsRequests, entries_of, with_call}
use Rattle.uring_outcomes.specs.Faults.{fault_of}
use Rattle.uring_outcomes.proofs.Faulting.{next_among, told, refusal_reason}
use Rattle.uring_outcomes.proofs.RunSteps.{accepts, call_there}
use Rattle.uring_outcomes.proofs.run.Run.accept.Goals as goal

pub returns-clause-made : goal.returns-clause-made
returns-clause-made g c = λ m at.
    let there = call_there c.args.calls.now c.args.self.now.next_call c.in-Some.call c.in-Some.ensures.lookup in
    accepts c.args.calls.now c.args.self.now _ m c.in-Some.call.now at there.0 there.1
    (subst (λ xs. ShowsRequests c.accept_call.new.dispatch (with_call m.requests xs)) c.as_slice.ensures.value (c.accept_call.ensures.shows m.requests (c.in_ok-reserve_in.ensures.shows m.requests at.requests)))
    c.accept_call.ensures.between refl refl refl

pub returns-in_err-reserve_in-clause-fault : goal.returns-in_err-reserve_in-clause-fault
returns-in_err-reserve_in-clause-fault g c =
    let at = c.requires.at in
    let e = c.in_err-reserve_in.field-0.0 in
    let there = call_there c.args.calls.now c.args.self.now.next_call c.in-Some.call c.in-Some.ensures.lookup in
    let among = next_among c.args.calls.now c.args.self.now c.requires.moment c.in-Some.call.now at there.0 there.1 in
    told c.from_residual.result _ (fault_of e) c.from_residual.ensures.1 (refusal_reason (g.M.Memory.grants c.args.memory.now) (entries_of c.args.calls.now) e
    (λ is. let much = c.in_err-reserve_in.ensures.spent.0 (ap (λ x. Err x) is) in omega (arith, among, much, at.requests.accepted, c.len.ensures))
    (λ is all. c.in_err-reserve_in.ensures.granted c.requires.moment.requests (suc (c.args.self.now.dispatch.accepted + c.len.result)) at.requests (all _) (omega arith) (ap (λ x. Err x) is)))
