use Rattle.std.proofs.Common.{◌≡◌, ℕ, ◌+◌, ◌<◌, ◌≤◌, length, take, arith, sym, ap, ◌∙◌, subst, length-take-le, take_all}
use Rattle.uring_words.specs.Places.{place_of}
use Rattle.uring_words.specs.Sides.{with_app}
use Rattle.uring_words.specs.Submission.Ends.{End}
use Rattle.uring_words.specs.Submission.Layout.{entry_index, array_index, IsPosition}
use Rattle.uring_words.specs.Submission.Rule.{stored}
use Rattle.uring_words.specs.declared.submission.view.Position.{Position}
use Rattle.uring_words.proofs.Plays.{stores_word, stores_mark}
use Rattle.uring_words.proofs.Standing.{at_place, few_words}
use Rattle.uring_words.proofs.submission.writer.CallWriter.stage.Goals as goal

-- what the end's value has room for, and may write next, the side that it shows has too
room_of : (e f : End) → e ≡ f
    → length (stored f.knows.app) < f.knows.app.head_seen + f.knows.app.size
    → length (stored e.knows.app) < e.knows.app.head_seen + e.knows.app.size
room_of e f is = subst (λ (x : End). length (stored x.knows.app) < x.knows.app.head_seen + x.knows.app.size) (sym is)

formed_of : (e f : End) (p : Position) → e ≡ f
    → IsPosition f.knows.app.size (place_of f.knows.app.start f.knows.app.size (length (stored f.knows.app))) p
    → IsPosition e.knows.app.size (place_of e.knows.app.start e.knows.app.size (length (stored e.knows.app))) p
formed_of e f p is = subst (λ (x : End). IsPosition x.knows.app.size (place_of x.knows.app.start x.knows.app.size (length (stored x.knows.app))) p) (sym is)

pub store-requires : goal.store-requires
store-requires c =
    let i = c.self.invariant in
    let a = c.self.inside.seat.me.0.app in
    let n : ℕ = length (stored a) in
    let k : ℕ = c.loop-k.k in
    let entry = c.args.entry.now in
    let at = at_place a.start c.self.inside.size a.size n c.self.inside.tail i.fits.sized i.fits.power i.tail_word in
    let few : length entry ≤ 16 = few_words _ _ _ c.requires.formed in
    let many : length (take k entry) ≡ k = length-take-le k entry (omega arith) in
    rw (c.deref.ensures, c.loop-k.invariant.words) (
      c.loop-k.invariant.table ∙ i.fits.same_table,
      omega (arith, at.1, i.fits.many),
      stores_word _ _ _ _ _ i.is_app (room_of _ _ c.self.view_is c.requires.room) (omega (arith, many)) (ap (λ p. entry_index p k) at.0 ∙ ap (λ j. entry_index (place_of a.start a.size n) j) (sym many)),
    )

pub store-requires-2 : goal.store-requires-2
store-requires-2 c =
    let i = c.self.invariant in
    let m = c.self.inside.seat.me in
    let a = m.0.app in
    let n : ℕ = length (stored a) in
    let entry = c.args.entry.now in
    let size : ℕ = c.self.inside.size in
    let at = at_place a.start size a.size n c.self.inside.tail i.fits.sized i.fits.power i.tail_word in
    let words = c.loop-k.invariant.words ∙ ap (λ ws. with_app m (record a { entry = ws })) (take_all c.loop-k.k entry (omega arith)) in
    rw (c.deref.ensures, words) (
      c.loop-k.invariant.table ∙ i.fits.same_table,
      omega (arith, at.1, i.fits.many),
      stores_mark _ _ _ _ _ i.is_app (room_of _ _ c.self.view_is c.requires.room) (formed_of _ _ _ c.self.view_is c.requires.formed)
          (ap (λ p. array_index size p) at.0 ∙ ap (λ s. array_index s (place_of a.start a.size n)) (sym i.fits.sized)),
    )
