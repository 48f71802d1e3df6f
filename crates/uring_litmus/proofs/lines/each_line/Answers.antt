use Rattle.std.proofs.Common.{rules}
use Rattle.uring_litmus.specs.Lines.{IsLineOf}
use Rattle.uring_litmus.proofs.Texts.{zip_more}
use Rattle.uring_litmus.proofs.lines.each_line.Goals as goal

pub loop-ending-preserved : goal.loop-ending-preserved
loop-ending-preserved g c =
    rw c.in_ok-push.ensures.items
    (zip_more (IsLineOf c.args.form) c.args.endings.now c.loop-ending.lines.items c.loop-ending.ending-index c.ending-item.result c.in_ok-line.line (search rules) c.ending-item.is c.loop-ending.invariant c.in_ok-line.ensures.line)
