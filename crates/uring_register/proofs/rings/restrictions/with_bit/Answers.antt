use Rattle.std.proofs.Common.{w64}
use Rattle.std.proofs.lemmas.Nat.Bits.{bit_at_set_same, bit_at_set_other}
use Rattle.uring_register.proofs.rings.restrictions.with_bit.Goals as goal

pub returns-clause-same : goal.returns-clause-same
returns-clause-same c = bit_at_set_same w64 c.args.set c.args.number c.requires

pub returns-clause-others : goal.returns-clause-others
returns-clause-others c = λ i other. bit_at_set_other w64 c.args.set c.args.number c.requires i other
