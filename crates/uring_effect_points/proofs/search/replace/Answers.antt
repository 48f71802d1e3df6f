use Rattle.std.proofs.Common.{◌≡◌, true, rules, List, ap, map, sym, subst, ◌++◌, ◌∙◌}
use Rattle.uring_effect_points.proofs.Common.{Contains, IsPlaced, MayTakeAt, State, Taker, awaits_at, seat_of, seats_of, took_at}
use Rattle.uring_effect_points.proofs.Searching.{taken_all}
use Rattle.uring_effect_points.proofs.search.replace.Goals as goal

pub push_all-requires-clause-placed : goal.push_all-requires-clause-placed
push_all-requires-clause-placed g c =
    subst (λ (s : State). IsPlaced c.args.count c.args.marks.now (seat_of s)) (sym c.in_ok-takers.ensures.same) c.requires.placed

pub push_all-requires-clause-may : goal.push_all-requires-clause-may
push_all-requires-clause-may g c = λ x there.
    subst (λ (s : State). MayTakeAt c.args.marks.now (seat_of s) x) (sym c.in_ok-takers.ensures.same) (c.in_ok-takers.ensures.takers.right x (subst (λ (xs : List Taker). Contains xs x) c.as_slice.ensures.value there))

pub returns-clause-replaces : goal.returns-clause-replaces
returns-clause-replaces g c =
    let waits : awaits_at c.args.marks.now (seat_of c.args.state) ≡ true = search rules in
    taken_all c.args.count c.args.marks.now (seat_of c.args.state) c.in_ok-takers.takers.items (seats_of c.args.todo.now.items) (seats_of c.push_all.new.todo.items) c.requires.placed waits c.in_ok-takers.ensures.takers (
    c.in_ok-push_all.ensures.pushed
    ∙ ap (λ (s : State). seats_of c.args.todo.now.items ++ map (took_at (seat_of s)) c.as_slice.result.now) c.in_ok-takers.ensures.same
    ∙ ap (λ (xs : List Taker). seats_of c.args.todo.now.items ++ map (took_at (seat_of c.args.state)) xs) c.as_slice.ensures.value
    )
