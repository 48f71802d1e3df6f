use Rattle.std.proofs.Common.{subst}
use Rattle.uring_check.proofs.Common.{IsNoRecord, on_ok_weaker}
use Rattle.uring_check.proofs.Splitting.{bad_none, short_before}
use Rattle.uring_check.proofs.checker.Checker.look.Goals as goal

pub returns-in-None-clause-looks : goal.returns-in-None-clause-looks
returns-in-None-clause-looks g c =
    on_ok_weaker c.find_none-in-None.result
    (λ made text e. made text e (subst IsNoRecord (c.in-Some.ensures.line text e) (bad_none c.in-Some.bytes.now _ _ c.in-Some-split_record.ensures (rw c.in-None.is at c.in_ok-step.ensures.step))))
    c.find_none-in-None.ensures.looks

pub read_step_in-requires : goal.read_step_in-requires
read_step_in-requires g c = short_before c.in-Some.bytes.now _ _ c.in-Some.ensures.short c.in-Some-split_record.ensures
