use Rattle.std.proofs.Common.{◌≡◌, ◌≤◌, ◌∷◌, Some, subst, sym, ◌∙◌}
use Rattle.uring_machine.proofs.Common.{Fits, History, IsUnrefused, Machine, Setup, least_of, world}
use Rattle.uring_core.specs.declared.step.Step.TheVariants as step
use Rattle.uring_machine.proofs.Settling.{some_least, next_fits, settled_run, settled_end, settled_finish}
use Rattle.uring_machine.proofs.machine.Machine.settle_one.Goals as goal

pub unreachable-requires : goal.unreachable-requires
unreachable-requires g c =
    let h = c.self.invariant.0 in
    let fits = c.self.invariant.1 in
    some_least (record { core = c.self.inside.core; files = c.self.inside.files }) h fits (subst (λ (m : Machine). 1 ≤ m.core.dispatch.outstanding) (sym c.self.view_is) c.requires)
    (sym c.in_default.is ∙ c.least.ensures h fits.core)

pub returns-in-Run-clause-settled : goal.returns-in-Run-clause-settled
returns-in-Run-clause-settled g c = λ h fits.
    let asked = c.step.ensures.fits h fits in
    let issued = c.step-in-Next.ensures.fits h (next_fits c.step.new.self c.step.result h asked) in
    settled_run _ c.args.self.now c.step.new.self c.finish_in.new.self c.in-Next.number c.step.result c.step-in-Next.result c.finish_in.result h c.step.ensures.setup (c.finish_in.ensures.setup ∙ c.step-in-Next.ensures.setup)
    c.in-Next.is c.in-Run.is fits asked (c.finish_in.ensures.fits _ issued)
    (λ sure. subst (λ (s : Setup). IsUnrefused s (world s ((step.Issue c.in-Next.number, c.step-in-Next.result) ∷ h)) (step.Finish c.in-Next.number) c.finish_in.result) (sym c.finish_in.ensures.setup) (c.finish_in.ensures.granted _ sure.0 issued sure.1 sure.2))

pub returns-in_default-step-2-clause-settled : goal.returns-in_default-step-2-clause-settled
returns-in_default-step-2-clause-settled g c = λ h fits.
    let asked = c.step.ensures.fits h fits in
    settled_end _ c.args.self.now c.step.new.self c.step-in-Next.new.self c.in-Next.number c.step.result c.step-in-Next.result h c.step.ensures.setup c.step-in-Next.ensures.setup
    c.in-Next.is c.in_default-step-2.not-Run fits asked (c.step-in-Next.ensures.fits h (next_fits c.step.new.self c.step.result h asked))

pub returns-in_default-step-clause-settled : goal.returns-in_default-step-clause-settled
returns-in_default-step-clause-settled g c = λ h fits.
    let asked = c.step.ensures.fits h fits in
    let least : (k : History) → Fits c.args.self.now k → Some c.in-Some.least ≡ least_of (world c.args.self.now.core.setup k).requests =
    rw (← c.self.view_is) (λ k f. sym c.in-Some.is ∙ c.least.ensures k f.core) in
    settled_finish _ c.args.self.now c.step.new.self c.finish_in-in_default-step.new.self c.in-Some.least c.step.result c.finish_in-in_default-step.result h c.step.ensures.setup c.finish_in-in_default-step.ensures.setup
    c.in_default-step.not-Next fits (least h fits) asked (c.finish_in-in_default-step.ensures.fits h (next_fits c.step.new.self c.step.result h asked))
    (λ sure. subst (λ (s : Setup). IsUnrefused s (world s h) (step.Finish c.in-Some.least) c.finish_in-in_default-step.result) (sym c.finish_in-in_default-step.ensures.setup) (c.finish_in-in_default-step.ensures.granted h sure.0 (next_fits c.step.new.self c.step.result h asked) sure.1 sure.2))
