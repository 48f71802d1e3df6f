use Rattle.uring_litmus.specs.Parts.{texts_of}
use Rattle.uring_litmus.proofs.judging.place_of.Goals as goal

pub returns-clause-place : goal.returns-clause-place
returns-clause-place g c = (
  texts_of c.in_ok-each.each.items,
  c.in_ok-each.ensures.lines,
  (texts_of c.in_ok-lines.lines.items, rw c.as_slice.ensures.value at c.in_ok-lines.ensures.lines, rw (c.as_slice-2.ensures.value, c.as_slice-3.ensures.value) at c.place_by-found.ensures),
)
