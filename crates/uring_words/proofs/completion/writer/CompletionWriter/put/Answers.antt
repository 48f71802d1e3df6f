use Rattle.std.proofs.Common.{◌≡◌, ℕ, ◌+◌, ◌<◌, length, take, arith, sym, ap, ◌∙◌, subst, length-take-le, take_all}
use Rattle.uring_words.specs.Completion.Ends.{End}
use Rattle.uring_words.specs.Completion.Layout.{cell_index, tail_index}
use Rattle.uring_words.specs.Places.{place_of}
use Rattle.uring_words.specs.Sides.{with_kernel}
use Rattle.uring_words.proofs.CompletionPlays.{stores_word, stores_tail}
use Rattle.uring_words.proofs.Standing.{at_place}
use Rattle.uring_words.proofs.completion.writer.CompletionWriter.put.Goals as goal

pub store-requires : goal.store-requires
store-requires c =
    let i = c.self.invariant in
    let d = c.self.inside.seat.me.0.kernel in
    let k : ℕ = c.loop-k.k in
    let cell = c.cell_of-cell.result in
    let ten = c.cell_of-cell.ensures.cell.many in
    let room : length d.put < d.head_seen + d.size = subst (λ (e : End). length e.knows.kernel.put < e.knows.kernel.head_seen + e.knows.kernel.size) (sym c.self.view_is) c.requires in
    let at = at_place d.start c.self.inside.size d.size (length d.put) c.self.inside.tail i.fits.sized i.fits.power i.tail_word in
    let many : length (take k cell) ≡ k = length-take-le k cell (omega (arith, ten)) in
    rw (c.deref.ensures, c.loop-k.invariant.words) (
      c.loop-k.invariant.table ∙ i.fits.same_table,
      omega (arith, at.1, i.fits.many),
      stores_word _ _ _ _ _ i.is_kernel room (omega (arith, many)) (ap (λ p. cell_index p k) at.0 ∙ ap (λ j. cell_index (place_of d.start d.size (length d.put)) j) (sym many)),
    )

pub store-requires-2 : goal.store-requires-2
store-requires-2 c =
    let i = c.self.invariant in
    let m = c.self.inside.seat.me in
    let d = m.0.kernel in
    let cell = c.cell_of-cell.result in
    let ten = c.cell_of-cell.ensures.cell.many in
    let room : length d.put < d.head_seen + d.size = subst (λ (e : End). length e.knows.kernel.put < e.knows.kernel.head_seen + e.knows.kernel.size) (sym c.self.view_is) c.requires in
    let words = c.loop-k.invariant.words ∙ ap (λ ws. with_kernel m (record d { cell = ws })) (take_all c.loop-k.k cell (omega (arith, ten))) in
    rw (c.deref.ensures, words) (
      c.loop-k.invariant.table ∙ i.fits.same_table,
      omega (arith, i.fits.many),
      stores_tail _ _ _ _ _ i.is_kernel room c.cell_of-cell.ensures.cell (omega (arith, i.tail_word)) (ap tail_index (sym i.fits.sized)),
    )
