use Rattle.std.proofs.Common.{◌↔◌, drop}
use Rattle.uring_litmus.proofs.Common.{AreAmong, texts_of}
use Rattle.uring_litmus.proofs.claims.shows.Given as goal

abbrev pub invariant-loop-part : goal.invariant-loop-part
invariant-loop-part l = AreAmong (texts_of l.line) (texts_of l.parts)
    ↔ AreAmong (texts_of l.wanted) (texts_of (drop l.part-index l.parts))
