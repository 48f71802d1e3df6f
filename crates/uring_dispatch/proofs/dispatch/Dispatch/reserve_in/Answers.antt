use Rattle.std.proofs.Common.{arith, ap, ◌∙◌}
use Rattle.uring_dispatch.proofs.Common.{Dispatch, false≢true}
use Rattle.uring_dispatch.proofs.Views.{held_from}
use Rattle.uring_dispatch.proofs.Alike.{alike_records}
use Rattle.uring_dispatch.proofs.dispatch.Dispatch.reserve_in.Goals as goal

pub invariant_of-self : goal.invariant_of-self
invariant_of-self g c = record {
  memory = c.reserve_in.ensures.kept _ (omega arith) c.self.invariant.memory;
  closed = λ e. (alike_records _ _ c.reserve_in.ensures.same).last ∙ c.self.invariant.closed e;
}

pub returns-in-Err-clause-granted : goal.returns-in-Err-clause-granted
returns-in-Err-clause-granted g c = λ r n shows grants below e.
    let accepted = ap (λ (d : Dispatch). d.accepted) c.self.view_is in
    false≢true (c.in-Err.ensures.granted r n (held_from _ _ c.self.inside.outstanding.grouped.groups _ _ r c.self.view_is shows) grants (omega arith))
