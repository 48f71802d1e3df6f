use Rattle.std.proofs.Common.{rules}
use Rattle.uring_threads.proofs.Keeping.{same_events, more_room}
use Rattle.uring_threads.proofs.events.Events.reserve.Goals as goal

pub returns-in_err-reserve-2-clause-items : goal.returns-in_err-reserve-2-clause-items
returns-in_err-reserve-2-clause-items g c =
    rw (← c.self.view_is) (same_events _ _ _ _ c.reserve-2.ensures.same c.self.invariant.within c.reserve.ensures.items)

pub returns-clause-items : goal.returns-clause-items
returns-clause-items g c =
    rw (← c.self.view_is) (same_events _ _ _ _ c.reserve-2.ensures.same c.self.invariant.within c.reserve.ensures.items)

pub invariant_of-self-2 : goal.invariant_of-self-2
invariant_of-self-2 g c =
    more_room _ _ _ _ _ _ _ _ _ c.self.invariant c.reserve-2.ensures.same c.in_ok-reserve-2.ensures.ok c.reserve.ensures.items (search rules) (search rules)
