use Rattle.std.proofs.Common.{◌∷◌}
use Rattle.uring_machine.proofs.Fitting.{step_fits, called_for, unrefused_apart, unrefused_finish, elements_apart}
use Rattle.uring_machine.proofs.Common.{no_finish, world}
use Rattle.uring_machine.proofs.machine.Machine.step_in.Goals as goal

pub invariant_of-self : goal.invariant_of-self
invariant_of-self g c =
    let h = c.self.invariant.0 in
    let fits = c.self.invariant.1 in (
      (c.args.step, c.step_in.result) ∷ h,
      step_fits c.self.inside.core c.step_in.new.self c.self.inside.files c.args.step c.step_in.result h c.step_in.ensures.setup (no_finish c.args.step c.in_default.not-Finish) fits (c.step_in.ensures.fits h fits.core),
    )

pub returns-in_default-clause-setup : goal.returns-in_default-clause-setup
returns-in_default-clause-setup g c = rw (← c.self.view_is) c.step_in.ensures.setup

pub returns-in_default-clause-fits : goal.returns-in_default-clause-fits
returns-in_default-clause-fits g c =
    rw (← c.self.view_is)
    (λ h fits. step_fits c.self.inside.core c.step_in.new.self c.self.inside.files c.args.step c.step_in.result h c.step_in.ensures.setup (no_finish c.args.step c.in_default.not-Finish) fits (c.step_in.ensures.fits h fits.core))

pub returns-in_default-clause-called : goal.returns-in_default-clause-called
returns-in_default-clause-called g c =
    rw (← c.self.view_is)
    (λ h fits.
    called_for c.self.inside.core.setup c.step_in.new.self c.self.inside.files c.args.step c.step_in.result h c.step_in.ensures.setup
    (step_fits c.self.inside.core c.step_in.new.self c.self.inside.files c.args.step c.step_in.result h c.step_in.ensures.setup (no_finish c.args.step c.in_default.not-Finish) fits (c.step_in.ensures.fits h fits.core)))

pub returns-in_default-clause-granted : goal.returns-in_default-clause-granted
returns-in_default-clause-granted g c =
    let other = no_finish c.args.step c.in_default.not-Finish in
    rw (← c.self.view_is)
    (λ h n fits grants few.
    let setup = c.self.inside.core.setup in
    unrefused_apart setup (world setup h) c.args.step c.step_in.result other (c.step_in.ensures.granted h n fits.core grants (elements_apart c.self.inside.core (world setup h) c.args.step n other few)))

pub returns-in-Finish-clause-granted : goal.returns-in-Finish-clause-granted
returns-in-Finish-clause-granted g c = λ h n fits grants few.
    let setup = c.args.self.now.core.setup in
    unrefused_finish setup (world setup h) c.args.self.now.core c.args.step c.in-Finish.number c.finish_in.result n c.in-Finish.is (λ enough. c.finish_in.ensures.granted h n fits grants enough) few

pub returns-in-Finish-clause-fits : goal.returns-in-Finish-clause-fits
returns-in-Finish-clause-fits g c = rw c.in-Finish.is c.finish_in.ensures.fits
