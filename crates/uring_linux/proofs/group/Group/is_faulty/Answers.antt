use Rattle.std.proofs.Common.{is_some, sym, ◌∙◌, ap}
use Rattle.uring_linux.proofs.MemberLemmas.{faulty_is}
use Rattle.uring_linux.proofs.group.Group.is_faulty.Goals as goal

pub returns : goal.returns
returns c = λ r n m. c.is_some.ensures ∙ ap is_some m.told.fault ∙ sym (faulty_is r _ _ n m.told.group m.low m.high)
