use Rattle.std.proofs.Common.{◌≡◌, ℕ, ◌+◌, ◌<◌, List, [], ◌∷◌, ◌++◌, length, take, get_or, map, sym, subst, ap, ◌∙◌, append_assoc, arith}
use Rattle.uring_outcomes.proofs.Common.{Move, map-append, paths_of, take_all, take_more}
use Rattle.uring_outcomes.proofs.paths.push_longer.Goals as goal

one_pushed : (path moves : List Move) (k : ℕ) (d : Move) (old mid new : List (List Move)) → k < length moves
    → mid ≡ old ++ map (λ x. path ++ x ∷ []) (take k moves)
    → new ≡ mid ++ (path ++ get_or moves k d ∷ []) ∷ []
    → new ≡ old ++ map (λ x. path ++ x ∷ []) (take (k + 1) moves)
one_pushed path moves k d old mid new low so_far is =
    let longer = λ (x : Move). path ++ x ∷ [] in
    is ∙ ap (λ ps. ps ++ longer (get_or moves k d) ∷ []) so_far ∙ append_assoc old (map longer (take k moves)) _
    ∙ ap (λ ps. old ++ ps) (sym (ap (map longer) (take_more moves k d low) ∙ map-append longer (take k moves) (get_or moves k d ∷ [])))

pub loop-next-preserved : goal.loop-next-preserved
loop-next-preserved g c =
    one_pushed c.args.path.now c.args.moves.now c.loop-next.next-index _ (paths_of c.args.todo.now.items) (paths_of c.loop-next.todo.items) _ (omega arith) c.loop-next.invariant c.in_ok-push_one.ensures.pushed

pub returns-clause-pushed : goal.returns-clause-pushed
returns-clause-pushed g c =
    subst (λ xs. paths_of c.loop-next.todo.items ≡ paths_of c.args.todo.now.items ++ map (λ x. c.args.path.now ++ x ∷ []) xs) (take_all c.loop-next.next-index c.args.moves.now (omega arith)) c.loop-next.invariant
