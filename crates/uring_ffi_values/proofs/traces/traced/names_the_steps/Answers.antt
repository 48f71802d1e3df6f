use Rattle.uring_ffi_values.proofs.TracedSteps.{names_the_steps}
use Rattle.uring_ffi_values.proofs.traces.traced.names_the_steps.Goals as goal

pub returns : goal.returns
returns c = names_the_steps
