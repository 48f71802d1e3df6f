use Rattle.uring_trace.proofs.Spellings.{step_once}
use Rattle.uring_trace.proofs.laws.one_step.Goals as goal

pub returns : goal.returns
returns c = step_once
