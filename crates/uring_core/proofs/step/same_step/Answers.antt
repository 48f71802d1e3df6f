use Rattle.std.proofs.Common.{ap, sym, ◌∙◌}
use Rattle.std.proofs.lemmas.Option.{same_Some}
use Rattle.uring_core.specs.StepForm.{step_of, words_of_step}
use Rattle.uring_core.proofs.step.same_step.Goals as goal

pub returns : goal.returns
returns c = (
  λ so. same_Some c.args.a.now c.args.b.now (sym c.of.ensures.step ∙ ap step_of (c.same_words.ensures.0 so) ∙ c.of-2.ensures.step),
  λ e. c.same_words.ensures.1 (c.of.ensures.words ∙ ap words_of_step e ∙ sym c.of-2.ensures.words),
)
