use Rattle.std.proofs.Common.{refl, arith}
use Rattle.uring_options.proofs.command_line.explained.Goals as goal

pub returns-then-is_given : goal.returns-then-is_given
returns-then-is_given c =
    let (numbers, gives, over) = c.in_ok-setup.ensures.ok in
    (numbers, gives, (refl, over, c.if-is_given.ensures, (c.given_number-at.ensures 0 4294967295 (omega arith) c.requires.1.1.1.1.0).0))
