use Rattle.std.proofs.Common.{sym, ◌∙◌, ap}
use Rattle.uring_linux.proofs.Common.{after_is, is_before}
use Rattle.uring_linux.proofs.group.Group.is_after_failure.Goals as goal

pub returns-in-Some : goal.returns-in-Some
returns-in-Some c = λ r m.
    sym (after_is r _ _ c.args.n m.told.group m.low m.high ∙ ap (λ o. is_before o c.args.n) (sym m.told.broken ∙ c.in-Some.is))

pub returns-in-None : goal.returns-in-None
returns-in-None c = λ r m.
    sym (after_is r _ _ c.args.n m.told.group m.low m.high ∙ ap (λ o. is_before o c.args.n) (sym m.told.broken ∙ c.in-None.is))
