use Rattle.std.proofs.Common.{sym, ◌∙◌}
use Rattle.uring_ffi_values.proofs.Refusals.{machine_granted}
use Rattle.uring_ffi_values.proofs.machines.machine_memory.machine_step_in.Goals as goal

pub returns-clause-granted : goal.returns-clause-granted
returns-clause-granted g c =
    machine_granted _ _ _ c.in-Some.step (sym c.step.ensures ∙ c.in-Some.is) c.step_in.result _ c.answer_words.ensures c.step_in.ensures.granted
