use Rattle.std.proofs.Common.{◌≡◌, refl, arith}
use Rattle.uring_options.proofs.command_line.checked.Goals as goal

pub returns-then-is_early : goal.returns-then-is_early
returns-then-is_early c =
    let over = c.in_ok-setup.ensures.ok in
    (over.0, over.1, (refl, over.2, rw c.if-is_early.true at c.is_given-is_early.ensures, (c.given_number-most.ensures 1 4294967295 (omega arith) c.requires.1.1.1.1.1.1.1.1.1.0).0))
