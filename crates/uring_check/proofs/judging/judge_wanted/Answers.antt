use Rattle.std.proofs.lemmas.Result.{IfOk-weaker}
use Rattle.uring_check.proofs.GrantedAnswers.{either_allowed}
use Rattle.uring_check.proofs.WantedAnswers.{only_judged}
use Rattle.uring_check.proofs.judging.judge_wanted.Goals as goal

pub returns-in-Only-clause-judges : goal.returns-in-Only-clause-judges
returns-in-Only-clause-judges g c =
    IfOk-weaker c.judge_one.result _ _ (λ found judged h is. only_judged h c.args.follower.now c.args.step.now c.args.text.now c.in-Only.answer found judged (rw c.in-Only.is at is)) c.judge_one.ensures.judged

pub returns-in-CallOrAgain : goal.returns-in-CallOrAgain
returns-in-CallOrAgain g c = rw c.in-CallOrAgain.is (assumption c.judge_either.ensures)

pub returns-in-EndOrNoMemory : goal.returns-in-EndOrNoMemory
returns-in-EndOrNoMemory g c = rw c.in-EndOrNoMemory.is (assumption c.judge_either-in-EndOrNoMemory.ensures)

pub returns-in-AnyEnd : goal.returns-in-AnyEnd
returns-in-AnyEnd g c = rw c.in-AnyEnd.is (assumption c.judge_end.ensures)

pub judge_either-requires-in-EndOrNoMemory-clause-allowed : goal.judge_either-requires-in-EndOrNoMemory-clause-allowed
judge_either-requires-in-EndOrNoMemory-clause-allowed g c = λ h. either_allowed c.args.follower.now c.args.step.now h c.in-EndOrNoMemory.res _

pub judge_either-requires-in-EndOrNoMemory-clause-other_allowed : goal.judge_either-requires-in-EndOrNoMemory-clause-other_allowed
judge_either-requires-in-EndOrNoMemory-clause-other_allowed g c = λ h. either_allowed c.args.follower.now c.args.step.now h c.in-EndOrNoMemory.res _
