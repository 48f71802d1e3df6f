use Rattle.uring_trace.proofs.Spellings.{spells_read}
use Rattle.uring_trace.proofs.step_lines.spells_in.Goals as goal

pub returns-in-Some-clause-step : goal.returns-in-Some-clause-step
returns-in-Some-clause-step g c =
    spells_read c.args.line.now c.in-Some.read c.args.step.now c.same_step.result (rw c.in-Some.is at c.in_ok-found.ensures.step) c.same_step.ensures
