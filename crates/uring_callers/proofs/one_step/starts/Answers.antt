use Rattle.std.proofs.lemmas.Bool.{false≢true}
use Rattle.uring_core.specs.Histories.{world}
use Rattle.uring_callers.proofs.Waiting.{run_after_ended, run_waits_for_none}
use Rattle.uring_callers.proofs.one_step.starts.Goals as goal

pub returns-in-Run-clause-in_order : goal.returns-in-Run-clause-in_order
returns-in-Run-clause-in_order c = λ runs manual h m fits lt waits.
    run_waits_for_none c.args.machine.now.core.setup (world c.args.machine.now.core.setup h) c.args.number m manual (c.in-Run.ensures.called h fits) lt waits

pub returns-in-Run-clause-links : goal.returns-in-Run-clause-links
returns-in-Run-clause-links c = λ runs h m fits lt joined.
    run_after_ended c.args.machine.now.core.setup (world c.args.machine.now.core.setup h) c.args.number m (c.in-Run.ensures.called h fits) lt joined

pub returns-in-Run-clause-fits : goal.returns-in-Run-clause-fits
returns-in-Run-clause-fits c = λ h fits. (c.step.result, c.step.ensures.fits h fits)

pub returns-in_default : goal.returns-in_default
returns-in_default c =
    record { fits = λ h fits. (c.step.result, c.step.ensures.fits h fits); links = λ runs. absurd (false≢true runs); in_order = λ runs. absurd (false≢true runs) }
