use lib.Pointwise.{bytes_decides}
use Rattle.uring_litmus.proofs.lines.is_same_text.Goals as goal

pub returns : goal.returns
returns c = rw c.eq.ensures (bytes_decides c.args.one.now c.args.other.now)
