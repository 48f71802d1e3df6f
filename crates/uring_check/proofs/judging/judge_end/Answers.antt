use Rattle.std.proofs.Common.{refl, sym, subst, w32, ◌∙◌, rules}
use Rattle.uring_check.proofs.Common.{MayGive, both_ways, no_bytes}
use Rattle.std.proofs.lemmas.Int.{to_z-of_z}
use Rattle.uring_core.specs.declared.answer.Answer.TheVariants as answer
use Rattle.uring_check.proofs.GrantedAnswers.{any_apart, any_finishes}
use Rattle.uring_check.proofs.WantedAnswers.{end_refused}
use Rattle.uring_check.proofs.judging.judge_end.Goals as goal

pub returns-in_default : goal.returns-in_default
returns-in_default g c = record {
  rules = refl;
  judges = tt;
  granted = λ sure h is. absurd (any_finishes c.args.follower.now c.args.step.now h is c.in_default.not-Finish);
}

pub returns-then-not-is_apart-clause-granted : goal.returns-then-not-is_apart-clause-granted
returns-then-not-is_apart-clause-granted g c = λ sure h is.
    absurd (any_apart c.args.follower.now c.args.step.now h is (sym c.is_apart.ensures ∙ c.if-not-is_apart.true))

pub returns-then-not-may_give-clause-judges : goal.returns-then-not-may_give-clause-judges
returns-then-not-may_give-clause-judges g c = λ h is.
    let decides = rw (to_z-of_z w32 c.in-Some.res (search rules)) at c.may_give.ensures in
    end_refused h c.args.follower.now c.args.step.now c.args.text.now c.in-Some.res c.in-Some.ensures.1 c.in-Some.ensures.0
    (λ may. both_ways c.may_give.result c.if-not-may_give.true (decides.1 (subst (MayGive (answer.Ended c.in-Some.res no_bytes)) (sym (c.entry_asked.ensures h is.1)) may))) is
