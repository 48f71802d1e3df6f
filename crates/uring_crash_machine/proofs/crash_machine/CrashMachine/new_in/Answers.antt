use Rattle.std.proofs.lemmas.Result.{IfOk-weaker}
use Rattle.uring_crash_machine.proofs.EpochCrashes.{new_fits}
use Rattle.uring_crash_machine.proofs.crash_machine.CrashMachine.new_in.Goals as goal

pub returns-clause-fits : goal.returns-clause-fits
returns-clause-fits g c =
    IfOk-weaker c.on_in.result _ _ (λ machine f. new_fits machine c.args.setup.now.files f) c.on_in.ensures.fits
