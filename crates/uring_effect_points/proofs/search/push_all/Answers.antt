use Rattle.std.proofs.Common.{List, ◌-◌, length, take, subst}
use Rattle.uring_effect_points.proofs.Common.{Contains, Contains-append_left, Taker, take-append-drop}
use Rattle.uring_effect_points.proofs.search.push_all.Goals as goal

pub push_others-requires-clause-may : goal.push_others-requires-clause-may
push_others-requires-clause-may g c = λ x there.
    let takers = c.args.takers.now in
    let before = length takers - 1 in
    c.requires.may x (subst (λ (xs : List Taker). Contains xs x) (take-append-drop before takers) (Contains-append_left (take before takers) _ x there))
