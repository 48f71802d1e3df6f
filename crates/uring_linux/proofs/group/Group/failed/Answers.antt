use Rattle.std.proofs.Common.{sym, ◌∙◌, ap}
use Rattle.uring_linux.proofs.Common.{first_member_inside, if_before}
use Rattle.uring_linux.proofs.MemberLemmas.{failed_is}
use Rattle.uring_linux.proofs.group.Group.failed.Goals as goal

pub returns-clause-failed : goal.returns-clause-failed
returns-clause-failed c = λ r m.
    c.if_before.ensures.value ∙ ap (λ o. if_before o c.args.n) m.told.broken ∙ sym (failed_is r _ _ c.args.n m.told.group m.low m.high)

pub returns-clause-within : goal.returns-clause-within
returns-clause-within c = λ r k m is.
    ((first_member_inside _ c.args.self.from c.args.self.end k (sym m.told.broken ∙ c.if_before.ensures.same k is)).0, c.if_before.ensures.less k is)
