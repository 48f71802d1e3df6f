use Rattle.std.proofs.Common.{◌≡◌, ◌++◌, Some}
use Rattle.uring_trace.proofs.Common.{codes, strip_prefix_is}
use Rattle.std.proofs.lemmas.Bool.Decides.{Decides-eqb}
use Rattle.uring_trace.proofs.QuestionLines.{why_words}
use Rattle.uring_trace.proofs.questions.why_asked.Goals as goal

pub returns : goal.returns
returns c =
    let begins : c.args.line.now ≡ codes "show why " ++ c.in_ok-strip_prefix.field-0.now = strip_prefix_is Decides-eqb c.args.line.now (codes "show why ") (Some c.in_ok-strip_prefix.field-0) c.in_ok-strip_prefix.ensures.cases in
    why_words c.args.line.now c.in_ok-strip_prefix.field-0.now c.spelled_long.result begins c.spelled_long.ensures.read
