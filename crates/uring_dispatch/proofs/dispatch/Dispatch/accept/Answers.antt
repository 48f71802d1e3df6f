use Rattle.std.proofs.Common.{ap, arith}
use Rattle.uring_dispatch.proofs.Common.{Dispatch, false≢true}
use Rattle.uring_dispatch.proofs.Views.{held_from, shows_held, room_fewer}
use Rattle.uring_dispatch.proofs.dispatch.Dispatch.accept.Goals as goal

pub invariant_of-self : goal.invariant_of-self
invariant_of-self c =
    let room = ap (λ (d : Dispatch). d.room) c.self.view_is in
    record {
      memory = c.accept.ensures.room _ (room_fewer _ c.self.inside.room _ (omega arith) c.self.invariant.memory);
      closed = λ no. absurd (false≢true no);
    }

pub returns-clause-shows : goal.returns-clause-shows
returns-clause-shows c = λ r s.
    shows_held _ _ _ _ _ (c.accept.ensures.shows r (held_from _ _ c.self.inside.outstanding.grouped.groups _ _ r c.self.view_is s))
