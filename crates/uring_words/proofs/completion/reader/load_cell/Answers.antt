use Rattle.std.proofs.Common.{◌≡◌, ℕ, ◌+◌, ◌<◌, ◌∷◌, length, get_or, set, arith, sym, ap, ◌∙◌, refl, subst, length-set, get_or-set_same, get_or-set_other, ext_get_or, below_more}
use Rattle.atomic_table.specs.Table.{step, Allows}
use mathlib.Core.Option.{none}
use Rattle.uring_words.specs.Completion.Ends.{copied_one}
use Rattle.uring_words.specs.Completion.Rule.{BothAgree}
use Rattle.uring_words.specs.Completion.Steps.{Holder, word_loaded, LoadsWord}
use Rattle.uring_words.specs.Sides.{with_app}
use Rattle.uring_words.proofs.Cells.{loaded_to, word_is_loaded, not_all_loaded}
use Rattle.uring_words.proofs.CompletionPlays.{loads_word}
use Rattle.uring_words.proofs.Standing.{some_first}
use Rattle.uring_words.proofs.completion.reader.load_cell.Goals as goal

pub load-requires : goal.load-requires
load-requires c =
    let m = c.args.seat.now.me in
    let a = m.0.app in
    let k : ℕ = c.loop-k.k in
    let slots : ℕ = c.args.words.now.table_id.slots in
    let index : ℕ = c.args.first + k in
    let first = some_first a.known c.requires.some in
    let below : k < 10 = omega arith in
    let is = c.loop-k.invariant.known first.0 first.1 first.2 ∙ ap (with_app m) (not_all_loaded a first.0 first.1 k below) in
    let P : Holder → Type 0 = λ me. Allows BothAgree slots c.loop-k.seat.id me index (λ n. n) (LoadsWord (step slots index 0 0 none) me) in (
      c.loop-k.invariant.table ∙ c.requires.table,
      omega (arith, c.requires.within),
      subst P (sym is) (loads_word slots c.loop-k.seat.id index k (with_app m (record a { loaded = k })) first.0 first.1 c.requires.app.0 first.2 refl below (ap (λ n. n + k) c.requires.first)),
    )

pub loop-k-init : goal.loop-k-init
loop-k-init c =
    let m = c.args.seat.now.me in
    record {
      table = refl;
      known = λ x xs is. ap (λ (n : ℕ). with_app m (record m.0.app { loaded = n })) c.requires.app.1;
      size = refl;
      words = λ x xs j is none. absurd (omega arith);
    }

pub loop-k-preserved : goal.loop-k-preserved
loop-k-preserved c =
    let m = c.args.seat.now.me in
    let a = m.0.app in
    let k : ℕ = c.loop-k.k in
    let inv = c.loop-k.invariant in
    let below : k < 10 = omega arith in
    record {
      table = c.load.ensures.0 ∙ inv.table;
      known = λ x xs is. c.load.ensures.2.0 ∙ ap (λ (me : Holder). with_app me (word_loaded me.0.app)) (inv.known x xs is) ∙ ap (with_app m) (word_is_loaded a x xs k is below);
      size = length-set c.loop-k.cell k c.load.result ∙ inv.size;
      words = λ x xs j is within.
          let at = inv.known x xs is ∙ ap (with_app m) (not_all_loaded a x xs k below) in
          let found = c.load.ensures.2.1 x xs k (ap (λ (me : Holder). me.0.app.known) at ∙ is) (ap (λ (me : Holder). me.0.app.loaded) at) below in
          let room : k < length c.loop-k.cell = omega (arith, inv.size) in (
            below_more (λ (i : ℕ). get_or (set c.loop-k.cell k c.load.result) i 0 ≡ get_or x i 0) k
                (λ i less. get_or-set_other c.loop-k.cell k i c.load.result 0 (λ e. omega arith) ∙ (inv.words x xs i is less).0)
                (get_or-set_same c.loop-k.cell k c.load.result 0 room ∙ found.0) j within,
            found.1,
          );
    }

pub returns : goal.returns
returns c =
    let m = c.args.seat.now.me in
    let inv = c.loop-k.invariant in
    let end : c.loop-k.k ≡ 10 = omega arith in
    let first = some_first m.0.app.known c.requires.some in
    let ten = (inv.words first.0 first.1 0 first.2 (omega arith)).1 in
    let all : first.0 ≡ c.loop-k.cell = sym (ext_get_or 0 c.loop-k.cell first.0 (omega (arith, inv.size, ten)) (λ j below. (inv.words first.0 first.1 j first.2 (omega (arith, inv.size))).0)) in
    record {
      table = inv.table;
      copied = (
        first.1,
        first.2 ∙ ap (λ x. x ∷ first.1) all,
        inv.known first.0 first.1 first.2 ∙ ap (λ k. with_app m (loaded_to m.0.app first.0 first.1 k)) end ∙ ap (λ x. with_app m (copied_one m.0.app x first.1)) all,
      );
    }
