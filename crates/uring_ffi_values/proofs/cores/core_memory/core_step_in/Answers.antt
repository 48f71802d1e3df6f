use Rattle.std.proofs.Common.{sym, ◌∙◌}
use Rattle.uring_ffi_values.proofs.Refusals.{core_granted}
use Rattle.uring_ffi_values.proofs.cores.core_memory.core_step_in.Goals as goal

pub returns-clause-granted : goal.returns-clause-granted
returns-clause-granted g c =
    core_granted _ _ _ c.in-Some.step (sym c.core_step.ensures ∙ c.in-Some.is) c.step_in.result _ c.answer_words.ensures c.step_in.ensures.granted
