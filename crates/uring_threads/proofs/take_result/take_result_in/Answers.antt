use Rattle.std.proofs.Common.{◌∷◌, subst}
use Rattle.uring_core.specs.Core.{FitsApart}
use Rattle.uring_core.specs.declared.step.Step.TheVariants as step
use Rattle.uring_threads.proofs.take_result.take_result_in.Goals as goal

-- a refused finish changes nothing
pub returns-clause-not_running : goal.returns-clause-not_running
returns-clause-not_running g c = λ none h fits.
    let refused = subst (λ a. FitsApart c.finish-answer.new.self ((step.Finish c.args.number, a) ∷ h)) none (c.finish-answer.ensures.fits h fits) in
    record { shows = refused.shows; lawful = refused.lawful.1 }
