use Rattle.std.proofs.Common.{◌≡◌, ℕ, ◌<◌, true, false, List, [], ◌∷◌, ◌++◌, length, arith, refl, sym, ap, ◌∙◌, subst, ne_eqb, length-append}
use Rattle.uring_entry.specs.IndexWords.{word_of}
use Rattle.uring_ports.specs.declared.item.Item.TheVariants as item
use Rattle.uring_words.specs.Places.{place_of}
use Rattle.uring_words.specs.Sides.{with_kernel}
use Rattle.uring_words.specs.Submission.Ends.{End, kernel_knows, copied_one}
use Rattle.uring_words.specs.Submission.Layout.{close_mark, closes, array_index, has_entry}
use Rattle.uring_words.specs.Submission.Steps.{Holder, word_loaded, MarkTold}
use Rattle.uring_words.specs.declared.submission.view.Position.{Position}
use Rattle.uring_words.proofs.Plays.{loads_mark}
use Rattle.uring_words.proofs.Positions.{mark_first, item_with_words}
use Rattle.uring_words.proofs.Standing.{at_place, some_first}
use Rattle.uring_words.proofs.submission.reader.CallReader.copy_one.Goals as goal

pub load-mark-requires : goal.load-mark-requires
load-mark-requires c =
    let i = c.self.invariant in
    let d = c.self.inside.seat.me.0.kernel in
    let n : ℕ = length d.copied in
    let size : ℕ = c.self.inside.size in
    let at = at_place d.start size d.size n c.self.inside.head i.fits.sized i.fits.power i.head_word in
    let some : 0 < length d.known = subst (λ (e : End). 0 < length e.knows.kernel.known) (sym c.self.view_is) c.requires in
    let first = some_first d.known some in
    rw c.deref.ensures (
      i.fits.same_table,
      omega (arith, at.1, i.fits.many),
      loads_mark _ _ _ _ first.0 first.1 i.is_kernel first.2 (ap (λ p. array_index size p) at.0 ∙ ap (λ s. array_index s (place_of d.start d.size n)) (sym i.fits.sized)),
    )

-- the array word and then the entry words are loaded: the position is copied
entry_copied : (m mid after : Holder) (mark : ℕ) (entry : List ℕ) → (t : MarkTold m.0.kernel mark)
    → m.0.kernel.loaded ≡ 0 → has_entry m.0.kernel.size mark ≡ true
    → mid ≡ with_kernel m (word_loaded m.0.kernel)
    → ((p : Position) (ps : List Position) → mid.0.kernel.known ≡ p ∷ ps → (entry ≡ p.entry) × (after ≡ with_kernel mid (copied_one mid.0.kernel p ps)))
    → (entry ≡ t.first.entry) × (after ≡ with_kernel m (copied_one m.0.kernel t.first t.others)) × (length t.first.entry ≡ 16)
entry_copied m mid after mark entry t none has is copied =
    let first = mark_first m.0.kernel mark t none has in
    let at = is ∙ ap (with_kernel m) first.0 in
    let all = copied t.first t.others (ap (λ (me : Holder). me.0.kernel.known) at ∙ t.known) in
    (all.0, all.1 ∙ ap (λ (me : Holder). with_kernel me (copied_one me.0.kernel t.first t.others)) at, first.1)

pub invariant_of-self-then-is_of_entry : goal.invariant_of-self-then-is_of_entry
invariant_of-self-then-is_of_entry c =
    let i = c.self.invariant in
    let m = c.self.inside.seat.me in
    let d = m.0.kernel in
    let mark : ℕ = c.load-mark.result in
    let told = c.load-mark.ensures.2.1 in
    let has = ap (λ s. has_entry s mark) i.fits.sized ∙ sym c.is_of_entry.ensures ∙ c.if-is_of_entry.true in
    let all = entry_copied m _ _ mark _ told i.loaded has c.load-mark.ensures.2.0 c.load_entry-entry.ensures.copied in
    let long = length-append d.copied (told.first ∷ []) in
    rw (c.load_entry-entry.ensures.table ∙ c.load-mark.ensures.0, all.1) (record {
      fits = i.fits;
      is_kernel = i.is_kernel;
      loaded = refl;
      tail_word = i.tail_word ∙ ap (word_of d.start) (omega (arith, ap length told.known, long));
      head_word = omega (arith, i.head_word, long);
      few = omega (arith, i.few, ap length told.known);
    })

pub returns-then-is_of_entry : goal.returns-then-is_of_entry
returns-then-is_of_entry c =
    let i = c.self.invariant in
    let m = c.self.inside.seat.me in
    let d = m.0.kernel in
    let mark : ℕ = c.load-mark.result in
    let told = c.load-mark.ensures.2.1 in
    let p = told.first in
    let has = ap (λ s. has_entry s mark) i.fits.sized ∙ sym c.is_of_entry.ensures ∙ c.if-is_of_entry.true in
    let all = entry_copied m _ _ mark _ told i.loaded has c.load-mark.ensures.2.0 c.load_entry-entry.ensures.copied in
    let table = c.load_entry-entry.ensures.table ∙ c.load-mark.ensures.0 in
    let open' : closes mark ≡ false = ne_eqb mark close_mark c.if-mark-eq-CLOSE_MARK.false in
    record {
      position = p;
      others = told.others;
      known = sym (ap (λ (e : End). e.knows.kernel.known) c.self.view_is) ∙ told.known;
      is = (λ j. record { table = table j; knows = (all.1 j).0 })
          ∙ ap (λ n. record { table = c.self.inside.seat.table_id; knows = record m.0 { kernel = record d { copied = d.copied ++ p ∷ []; known = told.others; loaded = n } } }) (sym i.loaded)
          ∙ ap (λ (e : End). kernel_knows e (record e.knows.kernel { copied = e.knows.kernel.copied ++ p ∷ []; known = told.others })) c.self.view_is;
      holds = c.copied_item.ensures p (sym told.mark) open' (item_with_words p.mark p.entry all.2 ∙ ap item.Entry (sym all.0 ∙ sym c.from_words.ensures));
    }
