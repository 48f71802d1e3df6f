use Rattle.uring_threads.proofs.Keeping.{grew, kept_event, fewer, one_more, events_more}
use Rattle.uring_threads.proofs.events.Events.push_reserved.Goals as goal

pub invariant_of-self : goal.invariant_of-self
invariant_of-self c =
    let step = c.keep_step-step in
    let answer = c.keep_answer-answer in
    let grown = grew _ _ _ step.ensures.goes step.ensures.same answer.ensures.goes answer.ensures.same in
    let event = kept_event _ _ (record { step = step.result; answer = answer.result }) (c.args.step, c.args.answer) answer.ensures.goes step.ensures.within answer.ensures.within step.ensures.is answer.ensures.is in
    rw c.push_reserved.ensures.capacity (one_more _ _ _ _ _ _ _ c.self.invariant grown event.0 c.push_reserved.ensures.items (fewer c.self.inside.store _ _ _ c.self.view_is c.requires))

pub returns-clause-items : goal.returns-clause-items
returns-clause-items c =
    let step = c.keep_step-step in
    let answer = c.keep_answer-answer in
    let grown = grew _ _ _ step.ensures.goes step.ensures.same answer.ensures.goes answer.ensures.same in
    let event = kept_event _ _ (record { step = step.result; answer = answer.result }) (c.args.step, c.args.answer) answer.ensures.goes step.ensures.within answer.ensures.within step.ensures.is answer.ensures.is in
    rw (← c.self.view_is) (events_more _ _ _ _ _ _ grown.stays c.self.invariant.within c.push_reserved.ensures.items event.1)
