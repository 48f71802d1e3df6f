use Rattle.uring_core.proofs.SameAnswers.{told_same}
use Rattle.uring_core.proofs.answer.same_answer.Goals as goal

pub returns : goal.returns
returns c = told_same c.args.a.now c.args.b.now c.eq.result c.eq.ensures
