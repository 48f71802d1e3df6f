use Rattle.std.proofs.Common.{◌≡◌, ◌≤◌, Some, None, sym, ◌∙◌, subst}
use Rattle.uring_linux.proofs.GroupsShown.{first_kept, member_is, kept_from}
use Rattle.uring_linux.proofs.WindowEvents.{at_within}
use Rattle.uring_linux.proofs.window.Window.group_of.Goals as goal

pub returns-in-Some-clause-member : goal.returns-in-Some-clause-member
returns-in-Some-clause-member c = λ r n h here. (member_is _ r n _ _ h here (sym c.in-Some.ensures)).1

pub returns-in-Some-clause-from : goal.returns-in-Some-clause-from
returns-in-Some-clause-from c = λ r n h here. (member_is _ r n _ _ h here (sym c.in-Some.ensures)).0

pub returns-in-Some-clause-kept : goal.returns-in-Some-clause-kept
returns-in-Some-clause-kept c = λ r n h here.
    subst (λ x. c.args.self.now.first ≤ x) (sym (member_is _ r n _ _ h here (sym c.in-Some.ensures)).0)
    (kept_from _ r n _ h (h.grouped n _ here).starts (at_within _ n _ here).low)

pub returns-in-None-clause-member : goal.returns-in-None-clause-member
returns-in-None-clause-member c = λ r n h here. let p = first_kept _ r n _ h here in absurd (let e : None ≡ Some p.0 = c.in-None.ensures ∙ p.1 in cc)

pub returns-in-None-clause-kept : goal.returns-in-None-clause-kept
returns-in-None-clause-kept c = λ r n h here. let p = first_kept _ r n _ h here in absurd (let e : None ≡ Some p.0 = c.in-None.ensures ∙ p.1 in cc)
