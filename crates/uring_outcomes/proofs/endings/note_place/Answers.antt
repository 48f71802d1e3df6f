use Rattle.std.proofs.Common.{ℕ, List, [], ◌∷◌, ◌++◌, sym, subst, ap, ◌∙◌}
use Rattle.std.specs.Prelude.{Contains, IsSomeAnd}
use Rattle.uring_outcomes.proofs.Indexing.{noted_more}
use Rattle.uring_outcomes.proofs.endings.note_place.Goals as goal

pub returns-clause-noted : goal.returns-clause-noted
returns-clause-noted g c =
    let values = c.in_ok-reserve_keys.ensures.entries.2 in
    noted_more c.args.places.now c.take_known-known.new.places c.insert.new.self c.take_known-known.result c.push_reserved.new.self c.args.mark c.args.place
    (λ k has. c.take_known-known.ensures.known k (subst (λ o. IsSomeAnd o (λ v. Contains v.items k)) (sym (values c.args.mark)) has))
    (λ m other. c.take_known-known.ensures.others m other ∙ values m)
    (◌∙◌ {A = List ℕ} c.push_reserved.ensures.items (ap (λ ks. ks ++ c.args.place ∷ []) c.in_ok-reserve.ensures.items)) c.in_ok-insert.ensures.updates.0
