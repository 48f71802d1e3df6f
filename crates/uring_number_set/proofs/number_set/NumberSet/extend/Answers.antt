use Rattle.std.proofs.Common.{arith}
use Rattle.uring_number_set.specs.NumberSet.{stop_of}
use Rattle.uring_number_set.proofs.FilledBlocks.{same_filled, filled_few}
use Rattle.uring_number_set.proofs.number_set.NumberSet.extend.Goals as goal

pub invariant_of-self : goal.invariant_of-self
invariant_of-self c =
    let known = c.self.invariant in
    let f = c.extend-then-extend.ensures in
    let no_more = c.extend.ensures.no_more (stop_of c.extend-then-extend.new.self) in
    same_filled _ _ _ _ known c.extend.ensures.same f.same (omega (arith, f.longer, f.start, known.start, c.extend.ensures.start)) (omega (arith, no_more, f.covered, f.longer, known.stop, c.extend.ensures.longer))
    (filled_few c.self.inside.numbers c.extend.new.self c.self.inside.filled c.extend-then-extend.new.self c.args.n known c.extend.ensures.covered c.extend.ensures.longer f.no_more) (omega (arith, known.let_go, f.start, c.extend.ensures.start))

pub returns-then-extend : goal.returns-then-extend
returns-then-extend c =
    let a = c.extend.ensures.same.limit in
    let b = c.extend-then-extend.ensures.same.limit in
    rw (← c.self.view_is) (record {
      same = record { same = c.extend.ensures.same.same; limit = omega arith };
      start = c.extend.ensures.start;
      longer = c.extend.ensures.longer;
      covered = c.extend.ensures.covered;
      few = c.extend.ensures.no_more;
    })
