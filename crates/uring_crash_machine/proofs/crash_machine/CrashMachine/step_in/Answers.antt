use Rattle.std.proofs.Common.{ℕ, ◌≤◌, refl, arith}
use Rattle.uring_crash_machine.proofs.Common.{CrashMachine, elements_for, world}
use Rattle.uring_core.proofs.Following.{no_finish}
use Rattle.uring_crash_machine.proofs.EpochSteps.{other_fits, other_unrefused}
use Rattle.uring_crash_machine.proofs.crash_machine.CrashMachine.step_in.Goals as goal

pub returns-in_default-clause-fits : goal.returns-in_default-clause-fits
returns-in_default-clause-fits g c =
    let m : CrashMachine = record { unit = c.self.inside.unit; core = c.self.inside.core; files = c.self.inside.files; logs = c.self.inside.logs.items; is_lost = c.self.inside.is_lost; is_folded = c.self.inside.is_folded } in
    let now : CrashMachine = record { unit = c.self.inside.unit; core = c.step_in.new.self; files = c.self.inside.files; logs = c.self.inside.logs.items; is_lost = c.self.inside.is_lost; is_folded = c.self.inside.is_folded } in
    rw (← c.self.view_is)
    (λ e earlier f. other_fits m now c.args.step c.step_in.result e earlier c.self.invariant.0 c.in_default.not-Issue c.in_default.not-Finish (no_finish c.args.step c.in_default.not-Finish) c.step_in.ensures.setup refl refl refl refl c.step_in.ensures.fits f)

pub returns-in_default-clause-unrefused : goal.returns-in_default-clause-unrefused
returns-in_default-clause-unrefused g c =
    rw (← c.self.view_is)
    (λ all e earlier f.
    let k : ℕ = elements_for c.self.inside.core (world c.self.inside.core.setup e.history) c.args.step in
    other_unrefused c.self.inside.files (world c.self.inside.core.setup e.history) c.args.step c.step_in.result c.in_default.not-Finish
    (c.step_in.ensures.granted e.history k f.core (all k) (let same : k ≤ k = omega arith in same)))

pub returns-in-Issue-clause-fits : goal.returns-in-Issue-clause-fits
returns-in-Issue-clause-fits g c = rw c.in-Issue.is c.issue.ensures.fits

pub returns-in-Issue-clause-unrefused : goal.returns-in-Issue-clause-unrefused
returns-in-Issue-clause-unrefused g c = rw c.in-Issue.is c.issue.ensures.unrefused

pub returns-in-Finish-clause-fits : goal.returns-in-Finish-clause-fits
returns-in-Finish-clause-fits g c = rw c.in-Finish.is c.finish.ensures.fits

pub returns-in-Finish-clause-unrefused : goal.returns-in-Finish-clause-unrefused
returns-in-Finish-clause-unrefused g c = rw c.in-Finish.is c.finish.ensures.unrefused
