use Rattle.std.proofs.Common.{refl, arith}
use Rattle.uring_options.proofs.command_line.crashed.Goals as goal

pub returns : goal.returns
returns c =
    let (numbers, gives, over) = c.in_ok-setup.ensures.ok in
    let file = c.given_number.ensures 0 63 (omega arith) c.requires.1.1.1.0 in
    (numbers, gives, (refl, over, (c.given_number.result, file.0, file.1, c.unwrap_or-file.ensures), c.unit_of-unit.ensures, (c.given_number-at.ensures 0 4294967295 (omega arith) c.requires.1.1.1.1.1.0).0, (c.given_number-seed.ensures 0 4294967295 (omega arith) c.requires.1.1.1.1.1.1.0).0, c.is_given-is_count.ensures, c.is_given-is_all.ensures, (c.given_number-most.ensures 1 4294967295 (omega arith) c.requires.1.1.1.1.1.1.1.1.1.0).0, c.is_given-is_holds.ensures, c.is_given-is_each.ensures))
