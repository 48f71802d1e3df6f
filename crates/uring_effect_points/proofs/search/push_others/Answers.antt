use Rattle.std.proofs.Common.{◌≡◌, ℕ, ◌+◌, ◌<◌, List, [], ◌∷◌, ◌++◌, length, take, get_or, map, sym, ap, ◌∙◌, append_assoc, arith}
use Rattle.uring_effect_points.proofs.Common.{Seat, Taker, map-append, seat_of, seats_of, take_all, take_more, took_at}
use Rattle.uring_effect_points.proofs.search.push_others.Goals as goal

one_pushed : (s : Seat) (takers : List Taker) (k : ℕ) (d : Taker) (old mid new : List Seat) (copy last : Seat) → k < length takers
    → mid ≡ old ++ map (took_at s) (take k takers) → copy ≡ s → last ≡ took_at copy (get_or takers k d)
    → new ≡ mid ++ last ∷ [] → new ≡ old ++ map (took_at s) (take (k + 1) takers)
one_pushed s takers k d old mid new copy last low so_far same took is =
    is ∙ ap (λ (x : Seat). mid ++ x ∷ []) (took ∙ ap (λ (x : Seat). took_at x (get_or takers k d)) same) ∙ ap (λ ps. ps ++ took_at s (get_or takers k d) ∷ []) so_far ∙ append_assoc old (map (took_at s) (take k takers)) _
    ∙ ap (λ ps. old ++ ps) (sym (ap (map (took_at s)) (take_more takers k d low) ∙ map-append (took_at s) (take k takers) (get_or takers k d ∷ [])))

pub loop-taker-preserved : goal.loop-taker-preserved
loop-taker-preserved g c =
    one_pushed (seat_of c.args.state.now) c.args.takers.now c.loop-taker.taker-index _ (seats_of c.args.todo.now.items) (seats_of c.loop-taker.todo.items) _ (seat_of c.in_ok-other.other) _ (omega arith) c.loop-taker.invariant c.in_ok-other.ensures.same c.in_ok-take.ensures.took
    (ap seats_of c.in_ok-push.ensures.items ∙ map-append seat_of c.loop-taker.todo.items (c.take.new.self ∷ []))

pub returns-clause-pushed : goal.returns-clause-pushed
returns-clause-pushed g c =
    c.loop-taker.invariant ∙ ap (λ xs. seats_of c.args.todo.now.items ++ map (took_at (seat_of c.args.state.now)) xs) (take_all c.loop-taker.taker-index c.args.takers.now (omega arith))
