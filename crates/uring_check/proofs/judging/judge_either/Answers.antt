use Rattle.uring_check.proofs.Common.{both_ways, false≢true}
use Rattle.uring_check.proofs.WantedAnswers.{either_fits, either_wrong}
use Rattle.uring_check.proofs.judging.judge_either.Goals as goal

pub returns-then-branch-clause-judges : goal.returns-then-branch-clause-judges
returns-then-branch-clause-judges g c =
    λ h is. (c.args.one.now, c.in_ok-is.ensures.same.0 c.if-branch.true, c.requires.plain, c.requires.allowed h is, c.in_ok-make.ensures.made h (either_fits h _ _ _ _ _ c.requires.either is))

pub returns-in_err-make-clause-granted : goal.returns-in_err-make-clause-granted
returns-in_err-make-clause-granted g c =
    λ all h is. absurd (false≢true (c.in_err-make.ensures.granted all h (either_fits h _ _ _ _ _ c.requires.either is) (is.0.only _ c.requires.either.one_meets)))

pub returns-clause-judges : goal.returns-clause-judges
returns-clause-judges g c =
    λ h is. either_wrong h _ _ _ _ _ _ c.requires.either (λ same. both_ways _ c.if-branch.false (c.in_ok-is.ensures.same.1 same)) (λ same. both_ways _ c.if-branch-2.false (c.in_ok-is-2.ensures.same.1 same)) is
