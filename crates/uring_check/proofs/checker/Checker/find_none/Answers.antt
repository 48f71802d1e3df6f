use Rattle.std.proofs.Common.{sym, ◌∙◌}
use Rattle.std.proofs.lemmas.Result.{on_ok_weaker}
use Rattle.uring_check.proofs.Looking.{looked_passed, looked_bad}
use Rattle.uring_check.proofs.checker.Checker.find_none.Goals as goal

pub returns-then-is_remark-clause-looks : goal.returns-then-is_remark-clause-looks
returns-then-is_remark-clause-looks g c = λ text e none h fits. looked_passed c.args.self.now text h none (sym (c.is_remark.ensures text e) ∙ c.if-is_remark.true) c.requires fits

pub returns-clause-looks : goal.returns-clause-looks
returns-clause-looks g c = on_ok_weaker c.tell_bad.result (λ told text e none h fits. looked_bad c.args.self.now c.fault.new.self c.tell_bad.new.report text h c.fault.ensures none (sym (c.is_remark.ensures text e) ∙ c.if-is_remark.false) fits (told text e)) c.tell_bad.ensures.told
