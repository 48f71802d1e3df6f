use Rattle.std.proofs.Common.{[], ◌++◌, subst, ◌∙◌}
use Rattle.uring_callers.proofs.Common.{append-nil, history_of, zip}
use Rattle.std.proofs.lemmas.Result.{IfOk-weaker}
use Rattle.uring_core.specs.CalledFor.{IsLawful}
use Rattle.uring_callers.proofs.lists.answers_of.Goals as goal

pub returns-clause-lawful : goal.returns-clause-lawful
returns-clause-lawful c = IfOk-weaker c.run-answers.result _ _ (λ answers fits.
    subst (λ h. IsLawful c.args.setup.now h) (append-nil (history_of (zip c.args.steps.now answers.items)))
    (subst (λ g. IsLawful g (history_of (zip c.args.steps.now answers.items) ++ [])) (c.run-answers.ensures.setup ∙ c.in_ok-machine.ensures.setup) (fits [] c.in_ok-machine.ensures.fits).lawful)) c.run-answers.ensures.fits
