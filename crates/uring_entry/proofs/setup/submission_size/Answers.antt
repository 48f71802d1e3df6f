use Rattle.std.proofs.Common.{refl, arith}
use Rattle.uring_entry.proofs.Powers.{rounded_within}
use Rattle.uring_entry.proofs.setup.submission_size.Goals as goal

pub returns-clause-limit : goal.returns-clause-limit
returns-clause-limit c =
    let found = c.next_power_of_two.ensures in
    rounded_within c.args.asked _ 4096 (found.power, found.lower_bound, found.upper_bound) (12, refl) (omega arith) (omega arith)
