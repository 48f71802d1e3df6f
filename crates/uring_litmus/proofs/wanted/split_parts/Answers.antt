use Rattle.std.proofs.Common.{◌∷◌, [], ◌++◌, ap, sym, subst, ◌∙◌, codes, rules, All}
use Rattle.std.proofs.lemmas.List.Elements.{All-push}
use Rattle.std.specs.Str.Pattern.{FindsText, SplitsAroundMatch}
use Rattle.uring_litmus.specs.Lines.{joined}
use Rattle.uring_litmus.specs.Parts.{texts_of}
use Rattle.uring_litmus.specs.Wanted.{IsCut, IsWhole}
use Rattle.uring_litmus.proofs.LineParts.{around, one_cut, first_whole, last_whole, cut_more}
use Rattle.uring_litmus.proofs.wanted.split_parts.Goals as goal

pub loop-part-preserved : goal.loop-part-preserved
loop-part-preserved g c =
    let at : SplitsAroundMatch (FindsText (codes ", ")) c.loop-part.rest.now c.in-Some.part.now c.in-Some.after.now = c.in-Some.ensures.cases in (
      search rules,
      one_cut c.args.line.now (texts_of c.loop-part.parts.items) _ _ _ c.loop-part.invariant.1 (around _ _ _ at) ∙ ap (λ ps. joined (ps ++ c.in-Some.after.now ∷ [])) (sym c.in_ok-push_copy.ensures.copies),
      subst (All IsWhole) (sym c.in_ok-push_copy.ensures.copies) (All-push IsWhole (texts_of c.loop-part.parts.items) c.in-Some.part.now c.loop-part.invariant.2 (first_whole _ _ _ at)),
    )

pub returns-clause-parts : goal.returns-clause-parts
returns-clause-parts g c =
    subst (IsCut c.args.line.now) (sym c.in_ok-push_copy-2.ensures.copies)
    (cut_more c.args.line.now (texts_of c.loop-part.parts.items) c.loop-part.rest.now c.loop-part.invariant.1 c.loop-part.invariant.2 (last_whole c.loop-part.rest.now c.in_default.ensures.cases))
