-- The laws of issuers.
use Rattle.std.proofs.Common.{[], ◌∷◌, refl, arith}
use Rattle.uring_register.specs.Rings.Issuing.{SetUp, Enabled, Called}
use Rattle.uring_register.specs.Rings.IssuingLaws.{DisabledHasNone}

pub disabled_has_none : DisabledHasNone
disabled_has_none [] so = refl
disabled_has_none (SetUp thread given strict ∷ earlier) so = grind (arith, so)
disabled_has_none (Enabled thread ∷ earlier) so = grind (arith, so)
disabled_has_none (Called thread ∷ earlier) so = disabled_has_none earlier so
