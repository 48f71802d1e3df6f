use Rattle.std.proofs.Common.{◌≡◌, Bool, true, false, refl, sym, ap, ◌∙◌, add-one, append_assoc, rules}
use Rattle.uring_pictures.proofs.Common.{arrows_below, arrows_text, entry_outstanding, is_linux_at, is_some, linux_at, requests_at, string_bytes}
use Rattle.uring_pictures.proofs.Arrows.{before_next}
use Rattle.uring_pictures.proofs.graph_text.push_arrows.Goals as goal
use Rattle.uring_pictures.proofs.graph_text.push_arrows.Goals.{then-ends_chain, else-ends_chain+then-is_some, else-ends_chain+else-is_some}

pub loop-number-preserved : goal.loop-number-preserved
loop-number-preserved g c = record {
  arrows = λ h keeps. rw (c.in_ok-push_both.ensures.arrows, c.loop-number.invariant.arrows h keeps, add-one, ← c.loop-number.invariant.chain h keeps, ← c.why.ensures h keeps) (append_assoc (string_bytes c.args.text.now) (arrows_below (is_linux_at c.args.accepted.now) (linux_at c.args.accepted.now h) c.loop-number.number) (arrows_text c.loop-number.number c.loop-number.before c.why.result));
  chain = λ h keeps.
      let r = requests_at c.args.accepted.now h in
      let next = λ (last some : Bool) (ends : c.ends_chain.result ≡ last) (has : some ≡ is_some (entry_outstanding r c.loop-number.number)). before_next r c.loop-number.number last some _ (sym ends ∙ c.ends_chain.ensures h keeps) has (c.loop-number.invariant.chain h keeps) in
      elim c.if-ends_chain.branch [
        | then-ends_chain w ↦ w.before-is ∙ next true _ w.if-ends_chain.true refl
        | else-ends_chain+then-is_some w ↦ w.before-is ∙ next false true w.if-ends_chain.false (sym w.if-is_some.true ∙ w.is_some.ensures ∙ ap is_some (w.outstanding.ensures h keeps))
        | else-ends_chain+else-is_some w ↦ w.before-is ∙ next false false w.if-ends_chain.false (sym w.if-is_some.false ∙ w.is_some.ensures ∙ ap is_some (w.outstanding.ensures h keeps))
      ];
}

pub returns-clause-arrows : goal.returns-clause-arrows
returns-clause-arrows g c =
    let last : c.loop-number.number ≡ c.count-number-end.result = search rules in
    λ h keeps. rw (last ∙ c.count-number-end.ensures h keeps) at (c.loop-number.invariant.arrows h keeps)
