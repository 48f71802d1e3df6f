use Rattle.std.proofs.Common.{ℕ, ◌%◌, sym, ap, ◌∙◌, rules}
use Rattle.uring_rings.specs.Sq.{Sq}
use Rattle.uring_rings.proofs.Elements.{read_cell}
use Rattle.uring_rings.proofs.SubmissionWords.{loop_finds, loop_passes}
use Rattle.uring_rings.proofs.sq.Sq.is_busy.Goals as goal

pub returns-then-index-slot : goal.returns-then-index-slot
returns-then-index-slot c =
    let size = ap (λ (q : Sq). q.size) c.self.view_is in
    let cell = c.cell-cell.ensures.value ∙ ap (λ (w : ℕ). w % c.args.self.now.size) c.after.ensures in
    let named =
    read_cell c.self.inside.array.items c.cell-cell.result _ c.args.self.now.size c.self.inside.size c.index.result.now c.index.ensures cell c.cell-cell.ensures.within (sym size) c.self.invariant.cells
    ∙ c.if-index-slot.true in
    rw (← c.self.view_is) (λ g l s. sym (loop_finds g _ l c.distance-count.result c.loop-k.k c.args.slot c.self.invariant s (search rules) (search rules) (search rules) named))

pub returns : goal.returns
returns c =
    rw (← c.self.view_is) (λ g l s. sym (loop_passes g _ l c.distance-count.result c.loop-k.k c.args.slot c.self.invariant s (search rules) (search rules) (search rules) c.loop-k.invariant))
