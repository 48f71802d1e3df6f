use Rattle.std.proofs.Common.{◌≡◌, ℕ, ◌+◌, ◌*◌, ◌%◌, [], ◌∷◌, ◌++◌, length, arith, sym, ap, ◌∙◌, subst, length-append}
use Rattle.atomic_table.specs.Table.{step, Allows}
use mathlib.Core.Option.{none}
use Rattle.uring_words.specs.Completion.Ends.{End, app_knows, copied_one}
use Rattle.uring_words.specs.Completion.Layout.{head_index}
use Rattle.uring_words.specs.Completion.Rule.{BothAgree}
use Rattle.uring_words.specs.Completion.Steps.{Holder, StoresHead, head_stored}
use Rattle.uring_words.specs.Sides.{with_app}
use Rattle.uring_words.proofs.CompletionPlays.{stores_head}
use Rattle.uring_words.proofs.completion.reader.CompletionReader.get_one.Goals as goal

pub store-requires : goal.store-requires
store-requires c =
    let i = c.self.invariant in
    let m = c.self.inside.seat.me in
    let a = m.0.app in
    let cell = c.load_cell-cell.result in
    let copied = c.load_cell-cell.ensures.copied in
    let slots : ℕ = c.deref.result.now.shared.table_id.slots in
    let index : ℕ = 10 * c.self.inside.size + 1 in
    let word : ℕ = (c.self.inside.head + 1) % 4294967296 in
    let id : ℕ = c.load_cell-cell.new.seat.id in
    let P : Holder → Type 0 = λ me. Allows BothAgree slots id me index (λ _. word) (λ _. StoresHead (step slots index word 0 none) me word) in
    let next = with_app m (copied_one a cell copied.0) in (
      rw c.deref.ensures (c.load_cell-cell.ensures.table ∙ i.fits.same_table),
      rw c.deref.ensures (omega (arith, i.fits.many)),
      subst P (sym copied.2) (stores_head slots id index next word i.is_app (omega (arith, i.head_word, length-append a.copied (cell ∷ []))) (ap head_index (sym i.fits.sized))),
    )

pub returns : goal.returns
returns c =
    let i = c.self.invariant in
    let m = c.self.inside.seat.me in
    let a = m.0.app in
    let cell = c.load_cell-cell.result in
    let copied = c.load_cell-cell.ensures.copied in
    let table = c.store.ensures.0 ∙ c.load_cell-cell.ensures.table in
    let me = c.store.ensures.2 ∙ ap (λ (x : Holder). with_app x (head_stored x.0.app)) copied.2 in
    let got : length (a.copied ++ cell ∷ []) ≡ a.got + 1 = omega (arith, length-append a.copied (cell ∷ []), i.got) in
    record {
      words = cell;
      others = copied.0;
      known = sym (ap (λ (e : End). e.knows.app.known) c.self.view_is) ∙ copied.1;
      is = (λ j. record { table = table j; knows = (me j).0 })
          ∙ ap (λ n. record { table = c.self.inside.seat.table_id; knows = record m.0 { app = record a { copied = a.copied ++ cell ∷ []; known = copied.0; loaded = 0; got = n } } }) got
          ∙ ap (λ n. record { table = c.self.inside.seat.table_id; knows = record m.0 { app = record a { copied = a.copied ++ cell ∷ []; known = copied.0; loaded = n; got = a.got + 1 } } }) (sym i.loaded)
          ∙ ap (λ (e : End). app_knows e (record e.knows.app { copied = e.knows.app.copied ++ cell ∷ []; known = copied.0; got = e.knows.app.got + 1 })) c.self.view_is;
      gives = sym c.from_words.ensures;
    }
