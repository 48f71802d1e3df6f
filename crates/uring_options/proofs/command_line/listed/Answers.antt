use Rattle.std.proofs.Common.{refl, arith}
use Rattle.uring_options.proofs.command_line.listed.Goals as goal

pub returns : goal.returns
returns c =
    let (numbers, gives, over) = c.in_ok-setup.ensures.ok in
    (numbers, gives, (refl, over, c.is_given-is_sorted.ensures, c.is_given-has_files.ensures, c.is_given-is_crash.ensures, c.unit_of-unit.ensures, (c.given_number-most.ensures 1 4294967295 (omega arith) c.requires.1.1.1.1.1.0).0, (c.given_number-number.ensures 1 4294967295 (omega arith) c.requires.1.1.1.1.1.1.0).0, c.is_given-is_never.ensures, c.is_given-is_always.ensures))
