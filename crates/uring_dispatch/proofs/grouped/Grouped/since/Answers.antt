use Rattle.std.proofs.Common.{sym, ◌∙◌, ap, is_some}
use Rattle.uring_dispatch.proofs.Common.{drain_of}
use Rattle.uring_dispatch.proofs.WhyHeld.{since_is, joined_apart, draining_kept}
use Rattle.uring_dispatch.proofs.grouped.Grouped.since.Goals as goal

pub returns-then-is_some : goal.returns-then-is_some
returns-then-is_some c = λ r h.
    since_is r c.args.n c.args.m _ _
    (joined_apart c.args.self.now.fits h c.requires.there (sym c.in-Some.ensures) c.requires.earlier c.if-other-request.false)
    (draining_kept _ c.args.self.now.fits h (sym c.in-Some.ensures) ∙ ap (λ o. is_some (drain_of o)) c.group_of.ensures.group ∙ sym c.is_some.ensures ∙ c.if-is_some.true)

pub returns-else-is_some : goal.returns-else-is_some
returns-else-is_some c = λ r h.
    since_is r c.args.n c.args.m _ _
    (joined_apart c.args.self.now.fits h c.requires.there (sym c.in-Some.ensures) c.requires.earlier c.if-other-request.false)
    (draining_kept _ c.args.self.now.fits h (sym c.in-Some.ensures) ∙ ap (λ o. is_some (drain_of o)) c.group_of.ensures.group ∙ sym c.is_some.ensures ∙ c.if-is_some.false)
