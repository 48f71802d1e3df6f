use Rattle.std.proofs.Common.{sym, ◌∙◌, rules}
use Rattle.uring_rings.proofs.SubmissionSteps.{fill_shows}
use Rattle.uring_rings.proofs.sq.Sq.fill.Goals as goal

pub returns-clause-shows : goal.returns-clause-shows
returns-clause-shows c = λ g l s.
    fill_shows g _ l c.args.slot c.args.entry c.self.invariant (rw c.self.view_is s) (search rules) (sym (c.is_busy.ensures g l s) ∙ c.if-is_busy.false)
