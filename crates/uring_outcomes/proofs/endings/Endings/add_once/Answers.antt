use Rattle.std.proofs.Common.{[], ◌∷◌, ◌++◌, List, length, refl, ap, ◌∙◌, inl, inr, arith}
use Rattle.uring_outcomes.proofs.Common.{Ending, both_ways, mark_of}
use Rattle.uring_outcomes.proofs.Indexing.{indexed_more}
use Rattle.uring_outcomes.proofs.endings.Endings.add_once.Goals as goal

pub returns-then-contains-clause-adds : goal.returns-then-contains-clause-adds
returns-then-contains-clause-adds g c = inl (refl, c.contains.ensures.0 c.if-contains.true)

pub returns-clause-adds : goal.returns-clause-adds
returns-clause-adds g c =
    inr (c.push_reserved.ensures.items ∙ ap (λ es. es ++ c.args.ending ∷ []) c.in_ok-reserve.ensures.items, λ has. both_ways c.contains.result c.if-contains.false (c.contains.ensures.1 has))

pub returns-clause-indexed : goal.returns-clause-indexed
returns-clause-indexed g c =
    indexed_more c.args.self.now.list.items c.push_reserved.new.self.items c.args.self.now.places c.note_place.new.places c.args.ending c.mark-mark.result c.len.result c.requires (c.mark-mark.ensures ∙ ap mark_of c.posted.ensures)
    (omega (arith, c.len.ensures, ap (λ (es : List Ending). length es) c.reserve.ensures.items))
    (c.push_reserved.ensures.items ∙ ap (λ es. es ++ c.args.ending ∷ []) c.reserve.ensures.items) c.in_ok-note_place.ensures.noted
