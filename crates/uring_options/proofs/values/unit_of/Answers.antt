use Rattle.std.proofs.Common.{arith}
use Rattle.uring_options.proofs.values.unit_of.Goals as goal

pub returns : goal.returns
returns c = let given = c.given_number.ensures 1 65536 (omega arith) c.requires in (c.given_number.result, given.0, given.1, c.unwrap_or.ensures)
