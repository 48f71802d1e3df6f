use Rattle.std.proofs.Common.{take}
use Rattle.uring_litmus.proofs.Common.{AreLinesOf, texts_of}
use Rattle.uring_litmus.proofs.lines.each_line.Given as goal

abbrev pub invariant-loop-ending : goal.invariant-loop-ending
invariant-loop-ending g l = AreLinesOf l.form (take l.ending-index l.endings) (texts_of l.lines.items)
