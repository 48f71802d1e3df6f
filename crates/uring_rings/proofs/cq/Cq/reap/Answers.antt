use Rattle.std.proofs.Common.{sym, ◌∙◌, rules}
use Rattle.std.proofs.lemmas.Bool.{eqb-false}
use Rattle.uring_rings.proofs.CompletionSteps.{reaps, reap_answers, reap_shows}
use Rattle.uring_rings.proofs.cq.Cq.reap.Goals as goal

pub returns-clause-answer : goal.returns-clause-answer
returns-clause-answer c = rw (← c.self.view_is) (λ g l s.
    let apart = eqb-false c.self.inside.next.0 c.self.inside.seen_tail.0 (sym c.eq.ensures ∙ c.if-eq.false) in
    reap_answers g _ l c.index.result.now c.self.invariant.0 s apart (reaps g _ l c.cell-cell.result c.index.result.now c.self.invariant.0 s apart (search rules) c.index.ensures))

pub returns-clause-shows : goal.returns-clause-shows
returns-clause-shows c = rw (← c.self.view_is) (λ g l s.
    let apart = eqb-false c.self.inside.next.0 c.self.inside.seen_tail.0 (sym c.eq.ensures ∙ c.if-eq.false) in
    reap_shows g _ l c.index.result.now _ c.self.invariant.0 s apart (reaps g _ l c.cell-cell.result c.index.result.now c.self.invariant.0 s apart (search rules) c.index.ensures) (search rules))
