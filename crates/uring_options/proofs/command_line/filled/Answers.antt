use Rattle.std.proofs.Common.{refl, arith}
use Rattle.uring_options.proofs.command_line.filled.Goals as goal

pub returns : goal.returns
returns c =
    let (numbers, gives, over) = c.in_ok-setup.ensures.ok in
    (numbers, gives, (refl, over, (c.given_number-most.ensures 1 4294967295 (omega arith) c.requires.1.1.1.0).0))
