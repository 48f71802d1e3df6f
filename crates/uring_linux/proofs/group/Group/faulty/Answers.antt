use Rattle.std.proofs.Common.{◌∙◌}
use Rattle.uring_linux.proofs.MemberLemmas.{faulty_member_is}
use Rattle.uring_linux.proofs.group.Group.faulty.Goals as goal

pub returns : goal.returns
returns c = λ r n m. m.told.fault ∙ faulty_member_is r _ _ n m.told.group m.low m.high
