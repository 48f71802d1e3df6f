use Rattle.std.proofs.Common.{◌≡◌, true, rules}
use Rattle.uring_observed_text.proofs.Common.{IfOk-weaker, IsGuessed, is_submitting, submitted}
use Rattle.uring_observed_text.proofs.Showing.{answered_seen, guess_shown, guess_wrong}
use Rattle.uring_observed_text.proofs.sight.sight_of_step.Goals as goal

pub returns-in-Some-clause-sight : goal.returns-in-Some-clause-sight
returns-in-Some-clause-sight g c = λ events fits.
    let of : IsGuessed c.args.step.now = search rules in
    guess_shown c.args.core.now events c.args.step.now c.in-Some.answer c.args.text.now of c.in-Some.ensures fits

pub returns-in-None-clause-sight : goal.returns-in-None-clause-sight
returns-in-None-clause-sight g c = λ events fits.
    let of : IsGuessed c.args.step.now = search rules in
    guess_wrong c.args.core.now events c.args.step.now c.args.text.now of c.in-None.ensures

pub returns-in_default-clause-sight : goal.returns-in_default-clause-sight
returns-in_default-clause-sight g c =
    let of : is_submitting c.args.step.now ≡ true = search rules in
    IfOk-weaker c.answered.result _ _ (λ seen so events fits. answered_seen c.answered.new.core events c.args.step.now c.args.text.now seen of (so (submitted events) fits)) c.answered.ensures.sight
