use Rattle.std.proofs.Common.{◌≡◌, length, arith}
use Rattle.uring_play.proofs.opening.over_words.Goals as goal

pub begin-requires-clause-ends : goal.begin-requires-clause-ends
begin-requires-clause-ends c = (c.args.setup.now, length c.in_ok-gates.gates.items, c.words.ensures.ok)

pub returns : goal.returns
returns c =
    let many : length c.in_ok-gates.gates.items ≡ c.args.workers = omega (arith, c.in_ok-gates.ensures.len, c.in_ok-gates.gates.ok.0) in
    rw many at (c.begin.ensures c.args.setup.now (length c.in_ok-gates.gates.items) c.words.ensures.ok)
