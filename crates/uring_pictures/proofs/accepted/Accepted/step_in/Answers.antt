use Rattle.std.proofs.Common.{refl, ap, ◌∷◌, [], ◌++◌, ◌∙◌, ℕ}
use Rattle.uring_pictures.proofs.Common.{on_ok_weaker}
use Rattle.uring_pictures.proofs.Calls.{call_made, step_made}
use Rattle.uring_pictures.proofs.accepted.Accepted.step_in.Goals as goal

pub returns-in_default-clause-made : goal.returns-in_default-clause-made
returns-in_default-clause-made g c =
    step_made _ _ c.args.step c.step_in-answer.result c.step_in-answer.ensures.setup c.step_in-answer.ensures.fits refl refl (λ accepted missed head end taken. c.in_default.not-End end)

pub returns-in_default-answer-clause-made : goal.returns-in_default-answer-clause-made
returns-in_default-answer-clause-made g c =
    step_made _ _ c.args.step c.step_in-answer.result c.step_in-answer.ensures.setup c.step_in-answer.ensures.fits refl refl (λ accepted missed head end taken. c.in_default-answer.not-Taken accepted missed head taken)

pub returns-clause-made : goal.returns-clause-made
returns-clause-made g c =
    on_ok_weaker c.add_entries.result (λ adds. call_made _ _ c.args.step c.step_in-answer.result _ _ _ c.in-End.is c.in-Taken.is c.step_in-answer.ensures.setup c.step_in-answer.ensures.fits
    (λ h fits all. adds h fits (c.counts-accepted.ensures h fits).accepted all)
    (λ h fits. c.in_ok-push_value.ensures.items ∙ ap (λ (n : ℕ). c.args.self.now.cuts.items ++ n ∷ []) (c.counts-accepted.ensures h fits).accepted))
    c.add_entries.ensures.entries
