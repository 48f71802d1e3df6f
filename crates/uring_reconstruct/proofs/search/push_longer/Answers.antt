use Rattle.std.proofs.Common.{◌≡◌, ℕ, ◌+◌, ◌<◌, List, [], ◌∷◌, ◌++◌, length, take, get_or, map, sym, ap, ◌∙◌, append_assoc, arith, rules, Vec, Global}
use Rattle.std.proofs.Math.Nat.{le_refl}
use Rattle.uring_reconstruct.proofs.Common.{Event, false≢true, map-append, paths_of, take_all, take_more}
use Rattle.uring_reconstruct.proofs.search.push_longer.Goals as goal

one_pushed : (path next : List Event) (k : ℕ) (x : Event) (old mid new : List (List Event)) → k < length next → x ≡ get_or next k x
    → mid ≡ old ++ map (λ y. path ++ y ∷ []) (take k next) → new ≡ mid ++ (path ++ x ∷ []) ∷ []
    → new ≡ old ++ map (λ y. path ++ y ∷ []) (take (k + 1) next)
one_pushed path next k x old mid new low at so_far is =
    let longer = λ (y : Event). path ++ y ∷ [] in
    let grown = take_more next k x low ∙ ap (λ y. take k next ++ y ∷ []) (sym at) in
    is ∙ ap (λ ps. ps ++ longer x ∷ []) so_far ∙ append_assoc old (map longer (take k next)) _
    ∙ ap (λ ps. old ++ ps) (sym (ap (map longer) grown ∙ map-append longer (take k next) (x ∷ [])))

pub loop-event-preserved : goal.loop-event-preserved
loop-event-preserved g c =
    let low = c.loop-event-test.true in
    let longer : c.push.new.list.items ≡ c.args.path.now ++ c.event-item.result ∷ [] = search rules in
    one_pushed c.args.path.now c.args.next.now c.loop-event.event-index c.event-item.result (paths_of c.args.todo.now.items) (paths_of c.loop-event.todo.items) _ (omega (arith, low)) c.event-item.is c.loop-event.invariant
    (ap paths_of c.in_ok-push-2.ensures.items ∙ map-append (λ (p : Vec Event Global). p.items) c.loop-event.todo.items (c.push.new.list ∷ []) ∙ ap (λ (p : List Event). paths_of c.loop-event.todo.items ++ p ∷ []) longer)

pub returns-clause-pushed : goal.returns-clause-pushed
returns-clause-pushed g c = c.loop-event.invariant ∙ ap (λ xs. paths_of c.args.todo.now.items ++ map (λ x. c.args.path.now ++ x ∷ []) xs) (take_all c.loop-event.event-index c.args.next.now (omega arith))

pub returns-in_err-push-2-clause-granted : goal.returns-in_err-push-2-clause-granted
returns-in_err-push-2-clause-granted g c = λ all. absurd (false≢true (c.in_err-push-2.ensures.granted _ (all _) (le_refl _)))
