use Rattle.uring_dispatch.proofs.Views.{held_from, shows_held}
use Rattle.uring_dispatch.proofs.dispatch.Dispatch.end_call.Goals as goal

pub invariant_of-self : goal.invariant_of-self
invariant_of-self c =
    record { memory = c.close.ensures.room _ c.self.invariant.memory; closed = λ e. c.close.ensures.last }

pub returns-clause-shows : goal.returns-clause-shows
returns-clause-shows c = λ r s.
    shows_held _ _ _ _ _ (c.close.ensures.shows r (held_from _ _ c.self.inside.outstanding.grouped.groups _ _ r c.self.view_is s))
