use Rattle.std.proofs.Common.{◌∙◌, ap, sym, subst}
use Rattle.uring_threads.proofs.Common.{FitsApart, IsWithinLimits, Setup, history_of, history_of_snoc}
use Rattle.uring_core.specs.declared.step.Step.TheVariants as step
use Rattle.uring_threads.proofs.kept.Kept.finish.Goals as goal

pub invariant_of-self : goal.invariant_of-self
invariant_of-self c =
    let before = c.self.inside.trace.items in
    let made = c.in-Ok.ensures in
    let events = ap history_of made.recorded ∙ history_of_snoc before (step.Finish c.args.number, c.in-Ok.answer) in (
      subst IsWithinLimits (sym made.setup) c.self.invariant.0,
      subst (FitsApart c.take_result_in.new.core) (sym events) (made.fits (history_of before) c.self.invariant.1),
      ap (λ (g : Setup). g.stops) made.setup ∙ c.self.invariant.2,
    )
