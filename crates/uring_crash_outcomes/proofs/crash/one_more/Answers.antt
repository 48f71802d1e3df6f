use Rattle.std.proofs.Common.{ℕ, [], ◌∷◌, ◌++◌, map, Vec, Global, arith, ap, ◌∙◌}
use Rattle.std.proofs.lemmas.List.{take_all}
use Rattle.uring_crash_outcomes.proofs.Lists.{map_more}
use Rattle.uring_crash_outcomes.proofs.crash.one_more.Goals as goal

pub loop-list-preserved : goal.loop-list-preserved
loop-list-preserved g c =
    map_more (λ (b : Vec ℕ Global). b.items) c.args.lists.now c.loop-list.list-index c.list-item.result [] _ _ (omega arith) c.list-item.is c.loop-list.invariant
    (c.in_ok-push_copy.ensures.pushed ∙ ap (λ bs. map (λ (b : Vec ℕ Global). b.items) c.loop-list.more.items ++ bs ∷ []) c.as_slice.ensures.value)

pub returns-clause-more : goal.returns-clause-more
returns-clause-more g c =
    c.in_ok-push_copy-2.ensures.pushed
    ∙ ap (λ xs. xs ++ c.args.bytes.now ∷ []) (c.loop-list.invariant ∙ ap (map (λ (b : Vec ℕ Global). b.items)) (take_all c.loop-list.list-index c.args.lists.now (omega arith)))
