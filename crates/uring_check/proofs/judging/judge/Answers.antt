use Rattle.std.proofs.Common.{Err, subst, rules}
use Rattle.uring_check.proofs.Common.{IfOk-weaker, IsJudged, Rules}
use Rattle.uring_check.proofs.WantedAnswers.{refused_wanted, sure_judged}
use Rattle.uring_check.proofs.judging.judge.Goals as goal

pub returns-in-Err-Wrong-clause-judges : goal.returns-in-Err-Wrong-clause-judges
returns-in-Err-Wrong-clause-judges g c =
    IfOk-weaker c.judge_wanted.result _ _ (λ found judged h fits. subst (λ (r : Rules). IsJudged r h c.judge_wanted.new.follower c.args.step.now c.args.text.now found) c.follow.ensures.rules (judged h (refused_wanted _ _ _ h _ _ c.in-Err-Wrong.field-0-is c.follow.ensures.rules (c.in-Err-Wrong.ensures.refused h fits) (c.in-Err-Wrong.ensures.resumed h fits)))) c.judge_wanted.ensures.judges

pub returns-in-Err-Wrong-clause-granted : goal.returns-in-Err-Wrong-clause-granted
returns-in-Err-Wrong-clause-granted g c =
    λ all h fits. c.judge_wanted.ensures.granted all h (refused_wanted _ _ _ h _ _ c.in-Err-Wrong.field-0-is c.follow.ensures.rules (c.in-Err-Wrong.ensures.refused h fits) (c.in-Err-Wrong.ensures.resumed h fits))

pub returns-in-Err-NoMemory-clause-granted : goal.returns-in-Err-NoMemory-clause-granted
returns-in-Err-NoMemory-clause-granted g c =
    λ all h fits. absurd (c.in-Err-NoMemory.ensures.granted all h fits (λ i. Err (c.in-Err-NoMemory.field-0-is i)))

pub returns-in_default-clause-judges : goal.returns-in_default-clause-judges
returns-in_default-clause-judges g c = IfOk-weaker c.judge_one.result _ _ (λ found judged. sure_judged _ _ c.args.step.now c.args.text.now _ found (search rules) c.step-answer.ensures.rules c.step-answer.ensures.fits judged) c.judge_one.ensures.judged
