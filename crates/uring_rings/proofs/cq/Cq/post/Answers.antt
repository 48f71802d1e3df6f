use Rattle.std.proofs.Common.{sym, ◌∙◌, subst}
use Rattle.uring_rings.specs.Cq.{Cq, ShowsCompletions}
use Rattle.uring_rings.proofs.CompletionSteps.{post_puts, post_waits}
use Rattle.uring_rings.proofs.cq.Cq.post.Goals as goal

pub returns-then-fits-clause-shows : goal.returns-then-fits-clause-shows
returns-then-fits-clause-shows c =
    rw c.put.ensures (λ g l s. post_puts g _ l c.args.completion _ c.self.invariant.0 (subst (λ (q : Cq). ShowsCompletions g q l) (sym c.self.view_is) s) (sym (c.has_free_cell-fits.ensures g l s) ∙ c.if-fits.true))

pub returns-else-fits-clause-shows : goal.returns-else-fits-clause-shows
returns-else-fits-clause-shows c =
    rw c.push_back_reserved.ensures.items (λ g l s. post_waits g _ l c.args.completion _ _ (subst (λ (q : Cq). ShowsCompletions g q l) (sym c.self.view_is) s) (sym (c.has_free_cell-fits.ensures g l s) ∙ c.if-fits.false))
