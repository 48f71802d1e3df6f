use Rattle.std.proofs.Common.{◌≡◌, ℕ, ◌+◌, ◌<◌, List, [], ◌∷◌, length, get_or, set, arith, sym, ap, ◌∙◌, refl, subst, length-set, get_or-set_same, get_or-set_other, ext_get_or, below_more}
use Rattle.atomic_table.specs.Table.{step, Allows}
use mathlib.Core.Option.{none}
use Rattle.uring_words.specs.Submission.Rule.{BothAgree}
use Rattle.uring_words.specs.Sides.{with_kernel}
use Rattle.uring_words.specs.Submission.Steps.{Holder, word_loaded, LoadsWord}
use Rattle.uring_words.specs.declared.submission.view.Position.{Position}
use Rattle.uring_words.proofs.Plays.{loads_word}
use Rattle.uring_words.proofs.Positions.{loaded_to, word_is_loaded, all_is_loaded, not_all_loaded}
use Rattle.uring_words.proofs.submission.reader.load_entry.Goals as goal

abbrev head_or : Position → List Position → Position
head_or e [] = e
head_or e (p ∷ ps) = p

pub load-requires : goal.load-requires
load-requires c =
    let m = c.args.seat.now.me in
    let d = m.0.kernel in
    let k : ℕ = c.loop-k.k in
    let slots : ℕ = c.args.words.now.table_id.slots in
    let index : ℕ = c.args.first + k in
    let p = c.requires.known.0 in
    let ps = c.requires.known.1 in
    let many : length p.entry ≡ 16 = c.requires.known.3 in
    let more : k < length p.entry = omega arith in
    let is = c.loop-k.invariant.known p ps c.requires.known.2 ∙ ap (with_kernel m) (not_all_loaded d p ps k more) in
    let P : Holder → Type 0 = λ me. Allows BothAgree slots c.loop-k.seat.id me index (λ n. n) (LoadsWord (step slots index 0 0 none) me) in (
      c.loop-k.invariant.table ∙ c.requires.table,
      omega (arith, c.requires.within),
      subst P (sym is) (loads_word slots c.loop-k.seat.id index k (with_kernel m (record d { loaded = k + 1 })) p ps c.requires.kernel.0 c.requires.known.2 refl more (ap (λ n. n + k) c.requires.first)),
    )

pub loop-k-init : goal.loop-k-init
loop-k-init c =
    let m = c.args.seat.now.me in
    let start : (p : Position) (ps : List Position) → m.0.kernel.known ≡ p ∷ ps → m ≡ with_kernel m (loaded_to m.0.kernel p ps 0) =
    λ p ps is.
    let first = c.requires.known in
    let same : p ≡ first.0 = ap (head_or p) (sym is ∙ first.2) in
    let more : 0 < length p.entry = omega (arith, ap (λ (q : Position). length q.entry) same, first.3) in
    ap (λ (n : ℕ). with_kernel m (record m.0.kernel { loaded = n })) c.requires.kernel.1 ∙ ap (with_kernel m) (sym (not_all_loaded m.0.kernel p ps 0 more)) in
    record { table = refl; known = start; size = refl; words = λ p ps j is none. absurd (omega arith) }

pub loop-k-preserved : goal.loop-k-preserved
loop-k-preserved c =
    let m = c.args.seat.now.me in
    let d = m.0.kernel in
    let k : ℕ = c.loop-k.k in
    let inv = c.loop-k.invariant in
    let first = c.requires.known in
    let many : (p : Position) (ps : List Position) → d.known ≡ p ∷ ps → length p.entry ≡ 16 = λ p ps is. ap (λ (q : Position). length q.entry) (ap (head_or p) (sym is ∙ first.2)) ∙ first.3 in
    record {
      table = c.load.ensures.0 ∙ inv.table;
      known = λ p ps is.
          let all = many p ps is in
          c.load.ensures.2.0 ∙ ap (λ (me : Holder). with_kernel me (word_loaded me.0.kernel)) (inv.known p ps is) ∙ ap (with_kernel m) (word_is_loaded d p ps k is (omega arith));
      size = length-set c.loop-k.entry k c.load.result ∙ inv.size;
      words = λ p ps j is below.
          let all = many p ps is in
          let within : k < length p.entry = omega arith in
          let at = inv.known p ps is ∙ ap (with_kernel m) (not_all_loaded d p ps k within) in
          let found : c.load.result ≡ get_or p.entry k 0 = (c.load.ensures.2.1 p ps k (ap (λ (me : Holder). me.0.kernel.known) at ∙ is) (ap (λ (me : Holder). me.0.kernel.loaded) at) within).0 in
          let room : k < length c.loop-k.entry = omega (arith, inv.size) in
          below_more (λ (i : ℕ). get_or (set c.loop-k.entry k c.load.result) i 0 ≡ get_or p.entry i 0) k
          (λ i less. get_or-set_other c.loop-k.entry k i c.load.result 0 (λ e. omega arith) ∙ inv.words p ps i is less)
          (get_or-set_same c.loop-k.entry k c.load.result 0 room ∙ found) j below;
    }

pub returns : goal.returns
returns c =
    let m = c.args.seat.now.me in
    let d = m.0.kernel in
    let inv = c.loop-k.invariant in
    let first = c.requires.known in
    record {
      table = inv.table;
      copied = λ p ps is.
          let many : length p.entry ≡ 16 = ap (λ (q : Position). length q.entry) (ap (head_or p) (sym is ∙ first.2)) ∙ first.3 in
          let end : c.loop-k.k ≡ 16 = omega arith in (
            ext_get_or 0 c.loop-k.entry p.entry (omega (arith, inv.size, many)) (λ j below. inv.words p ps j is (omega (arith, inv.size))),
            inv.known p ps is ∙ ap (with_kernel m) (all_is_loaded d p ps c.loop-k.k (omega arith)),
          );
    }
