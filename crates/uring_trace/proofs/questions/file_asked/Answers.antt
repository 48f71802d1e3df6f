use Rattle.std.proofs.Common.{◌≡◌, ◌++◌, Some}
use Rattle.uring_trace.proofs.Common.{codes, strip_prefix_is}
use Rattle.std.proofs.lemmas.Bool.Decides.{Decides-eqb}
use Rattle.uring_trace.proofs.QuestionLines.{file_words}
use Rattle.uring_trace.proofs.questions.file_asked.Goals as goal

pub returns : goal.returns
returns c =
    let begins : c.args.line.now ≡ codes "show file " ++ c.in_ok-strip_prefix.field-0.now = strip_prefix_is Decides-eqb c.args.line.now (codes "show file ") (Some c.in_ok-strip_prefix.field-0) c.in_ok-strip_prefix.ensures.cases in
    file_words c.args.line.now c.in_ok-strip_prefix.field-0.now c.spelled_signed.result begins c.spelled_signed.ensures.read
