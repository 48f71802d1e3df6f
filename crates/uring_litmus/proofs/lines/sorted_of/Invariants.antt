use Rattle.std.proofs.Common.{◌≡◌, take}
use Rattle.uring_litmus.specs.Parts.{texts_of}
use Rattle.uring_litmus.proofs.lines.sorted_of.Given as goal

abbrev pub invariant-loop-text : goal.invariant-loop-text
invariant-loop-text g l = texts_of l.lines.items ≡ texts_of (take l.text-index l.each)
