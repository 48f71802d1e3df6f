use Rattle.std.proofs.Common.{take, true}
use Rattle.uring_litmus.proofs.Common.{AllZip, IsNoted, texts_of}
use Rattle.uring_litmus.proofs.orders.note_all.Given as goal

abbrev pub invariant-loop-line : goal.invariant-loop-line
invariant-loop-line g l = AllZip (IsNoted true (texts_of l.each) (texts_of l.orders)) (texts_of (take l.line-index l.lines)) (texts_of l.shown.items)
