use Rattle.std.proofs.Common.{sym, ◌∙◌}
use Rattle.std.proofs.lemmas.Bool.{or_left, or_right}
use Rattle.uring_dispatch.proofs.HeldLemmas.{doomed_held, doomed_rest, in_group}
use Rattle.uring_dispatch.proofs.grouped.Grouped.is_doomed_in.Goals as goal

pub returns-then-request-clause-doomed : goal.returns-then-request-clause-doomed
returns-then-request-clause-doomed c = λ r h.
    sym
    (doomed_held (in_group c.args.self.now.fits h c.requires.there (c.requires.group _ c.requires.there))
    ∙ or_right _ _ c.if-request.true)

pub returns-then-is_some-clause-doomed : goal.returns-then-is_some-clause-doomed
returns-then-is_some-clause-doomed c = λ r h.
    sym
    (doomed_held (in_group c.args.self.now.fits h c.requires.there (c.requires.group _ c.requires.there))
    ∙ or_left _ _ (or_left _ _ (sym c.is_some.ensures ∙ c.if-is_some.true)))

pub returns-clause-doomed : goal.returns-clause-doomed
returns-clause-doomed c = λ r h.
    c.is_before.ensures
    ∙ sym
    (doomed_held (in_group c.args.self.now.fits h c.requires.there (c.requires.group _ c.requires.there))
    ∙ doomed_rest _ _ _ (sym c.is_some.ensures ∙ c.if-is_some.false) c.if-request.false)
