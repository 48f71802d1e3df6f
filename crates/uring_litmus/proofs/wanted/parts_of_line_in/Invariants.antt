use Rattle.std.proofs.Common.{take}
use Rattle.std.specs.Prelude.{All}
use Rattle.uring_litmus.specs.Parts.{texts_of}
use Rattle.uring_litmus.specs.Wanted.{IsPart}
use Rattle.uring_litmus.proofs.wanted.parts_of_line_in.Given as goal

abbrev pub invariant-loop-part : goal.invariant-loop-part
invariant-loop-part g l = All IsPart (texts_of (take l.part-index l.part-items))
