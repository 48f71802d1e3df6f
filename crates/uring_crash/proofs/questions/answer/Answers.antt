use Rattle.std.proofs.Common.{List, ℕ, sym, subst, ◌∙◌}
use Rattle.uring_crash.proofs.Common.{Appends, string_bytes}
use Rattle.uring_crash.proofs.Replies.{is_answered, is_bad_line}
use Rattle.uring_crash.proofs.questions.answer.Goals as goal

pub returns-then-has_bad-clause-answered : goal.returns-then-has_bad-clause-answered
returns-then-has_bad-clause-answered g c = λ setup f.
    is_bad_line c.args.question.now c.args.asked.now setup c.reads_bad_line.new.follower _ _ _ (c.in_ok-has_bad.ensures.read c.args.asked.now.unit setup c.args.asked.now.fd c.args.asked.now.lines f) (sym c.in_ok-has_bad.ensures.bad ∙ c.if-has_bad.true)

pub returns-clause-answered : goal.returns-clause-answered
returns-clause-answered g c = λ setup f.
    let read = c.in_ok-has_bad.ensures.read c.args.asked.now.unit setup c.args.asked.now.fd c.args.asked.now.lines f in
    let written = c.in_ok-write_all.ensures.text in
    is_answered c.args.question.now c.args.asked.now setup c.in_ok-told.told.0 c.reads_bad_line.new.follower c.watch.result.now (string_bytes c.in_ok-told.told.1) _ _ _ _ read (sym c.in_ok-has_bad.ensures.bad ∙ c.if-has_bad.false) c.watch.ensures
    (subst (λ (l : List ℕ). Appends (g.W.Write.contents c.args.writer.now) (g.W.Write.contents c.write_all.new.writer) l) (written.2 ∙ c.as_bytes.ensures.value) written.1)
    c.in_ok-told.ensures.reply
