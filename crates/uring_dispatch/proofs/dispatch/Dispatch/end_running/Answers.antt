use Rattle.std.proofs.Common.{rules}
use Rattle.uring_dispatch.proofs.Common.{to_z-of_z, w32}
use Rattle.uring_dispatch.proofs.Views.{held_from, shows_held, room_stays, unchanged_end}
use Rattle.uring_dispatch.proofs.dispatch.Dispatch.end_running.Goals as goal

pub invariant_of-self : goal.invariant_of-self
invariant_of-self c =
    let end = unchanged_end _ _ _ (c.end_running.ensures.counts 0 c.self.inside.is_between_calls) in
    record { memory = room_stays _ _ _ c.end_running.ensures.stays end c.self.invariant.memory; closed = λ e. c.end_running.ensures.stays.last }

pub returns-clause-answer : goal.returns-clause-answer
returns-clause-answer c = λ r s.
    rw (to_z-of_z w32 c.args.res (search rules)) at (c.end_running.ensures.answer r (held_from _ _ c.self.inside.outstanding.grouped.groups _ _ r c.self.view_is s))

pub returns-clause-shows : goal.returns-clause-shows
returns-clause-shows c = λ r bytes s.
    shows_held _ _ _ _ _ (rw (to_z-of_z w32 c.args.res (search rules)) at (c.end_running.ensures.shows r bytes (held_from _ _ c.self.inside.outstanding.grouped.groups _ _ r c.self.view_is s)))
