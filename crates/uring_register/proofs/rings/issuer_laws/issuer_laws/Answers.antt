use Rattle.uring_register.proofs.IssuingLaws.{disabled_has_none}
use Rattle.uring_register.proofs.rings.issuer_laws.issuer_laws.Goals as goal

pub returns-clause-disabled_has_none : goal.returns-clause-disabled_has_none
returns-clause-disabled_has_none c = disabled_has_none
