use Rattle.std.proofs.Common.{arith}
use Rattle.uring_options.proofs.values.workers_of.Goals as goal

pub returns : goal.returns
returns c = (c.given_number.result, c.given_number.ensures 1 8 (omega arith) c.requires, c.unwrap_or.ensures)
