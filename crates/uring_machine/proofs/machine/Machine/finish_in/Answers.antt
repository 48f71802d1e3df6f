use Rattle.std.proofs.Common.{◌∷◌, sym, ◌∙◌}
use Rattle.uring_core.specs.declared.step.Step.TheVariants as step
use Rattle.uring_machine.proofs.Fitting.{finish_fits, finish_called, finish_idle}
use Rattle.uring_machine.proofs.machine.Machine.finish_in.Goals as goal

pub invariant_of-self : goal.invariant_of-self
invariant_of-self g c =
    let h = c.self.invariant.0 in
    let fits = c.self.invariant.1 in (
      (step.Finish c.args.number, c.finish.result) ∷ h,
      finish_fits c.self.inside.core c.finish.new.self c.self.inside.files c.args.number c.in-Some.op c.apply_in-outcome.result c.apply_in-outcome.new.self c.finish.result h c.finish.ensures.setup fits
          (sym c.in-Some.is ∙ c.running_op.ensures.value h fits.core) c.apply_in-outcome.ensures.outcome c.apply_in-outcome.ensures.files (c.finish.ensures.fits h fits.core) (c.finish.ensures.outcome h fits.core),
    )

pub returns-in-Some-clause-fits : goal.returns-in-Some-clause-fits
returns-in-Some-clause-fits g c =
    rw (← c.self.view_is)
    (λ h fits.
    finish_fits c.self.inside.core c.finish.new.self c.self.inside.files c.args.number c.in-Some.op c.apply_in-outcome.result c.apply_in-outcome.new.self c.finish.result h c.finish.ensures.setup fits
    (sym c.in-Some.is ∙ c.running_op.ensures.value h fits.core) c.apply_in-outcome.ensures.outcome c.apply_in-outcome.ensures.files (c.finish.ensures.fits h fits.core) (c.finish.ensures.outcome h fits.core))

pub returns-in-Some-clause-granted : goal.returns-in-Some-clause-granted
returns-in-Some-clause-granted g c =
    rw (← c.self.view_is)
    (λ h n fits grants few.
    finish_called c.self.inside.core c.self.inside.files c.args.number c.in-Some.op c.apply_in-outcome.result c.finish.result h fits
    (sym c.in-Some.is ∙ c.running_op.ensures.value h fits.core) (c.apply_in-outcome.ensures.granted n grants few) (c.finish.ensures.outcome h fits.core))

pub returns-in-None-clause-granted : goal.returns-in-None-clause-granted
returns-in-None-clause-granted g c =
    rw (← c.self.view_is)
    (λ h n fits grants few. finish_idle c.self.inside.core c.self.inside.files c.args.number h (sym c.in-None.is ∙ c.running_op.ensures.value h fits.core))
