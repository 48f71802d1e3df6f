use Rattle.std.proofs.Common.{◌≡◌, ℕ, ◌+◌, ◌<◌, length, get_or, take, [], ◌∷◌, ◌++◌, List, map, ap, sym, ◌∙◌, arith}
use Rattle.uring_effect_points.proofs.Common.{Outcome, Running, map-append, take_all, take_more, taking, with_taken}
use Rattle.uring_effect_points.proofs.running.with_taken.Goals as goal

one_more : (running : List Running) (n : ℕ) (o : Outcome) (k : ℕ) (d : Running) (old new : List Running) (x : Running)
    → k < length running → old ≡ with_taken (take k running) n o → x ≡ taking n o (get_or running k d)
    → new ≡ old ++ x ∷ [] → new ≡ with_taken (take (k + 1) running) n o
one_more running n o k d old new x low so_far one is =
    is ∙ ap (λ xs. xs ++ x ∷ []) so_far ∙ ap (λ y. with_taken (take k running) n o ++ y ∷ []) one
    ∙ sym (ap (map (taking n o)) (take_more running k d low) ∙ map-append (taking n o) (take k running) (get_or running k d ∷ []))

pub loop-one-preserved : goal.loop-one-preserved
loop-one-preserved g c =
    one_more c.args.running.now c.args.number c.args.outcome.now c.loop-one.one-index _ c.loop-one.all.items _ _ (omega arith) c.loop-one.invariant c.taking.ensures c.in_ok-push.ensures.items

pub returns-clause-all : goal.returns-clause-all
returns-clause-all g c =
    c.loop-one.invariant ∙ ap (λ rs. with_taken rs c.args.number c.args.outcome.now) (take_all c.loop-one.one-index c.args.running.now (omega arith))
