use Rattle.uring_dispatch.proofs.Views.{held_from, shows_held, room_stays, unchanged_end_issue}
use Rattle.uring_dispatch.proofs.dispatch.Dispatch.issue_posting.Goals as goal

pub invariant_of-self : goal.invariant_of-self
invariant_of-self c =
    let end = unchanged_end_issue _ _ _ (c.issue.ensures.counts 0 c.self.inside.is_between_calls) in
    record { memory = room_stays _ _ _ c.issue.ensures.stays end c.self.invariant.memory; closed = λ e. c.issue.ensures.stays.last }

pub returns-clause-answer : goal.returns-clause-answer
returns-clause-answer c =
    λ r s. c.issue.ensures.answer r (held_from _ _ c.self.inside.outstanding.grouped.groups _ _ r c.self.view_is s)

pub returns-clause-shows : goal.returns-clause-shows
returns-clause-shows c = λ r s. shows_held _ _ _ _ _ (c.issue.ensures.shows r (held_from _ _ c.self.inside.outstanding.grouped.groups _ _ r c.self.view_is s))
