use Rattle.std.proofs.Common.{◌∷◌, [], ap, ◌∙◌, rules}
use Rattle.uring_effect_points.proofs.Common.{map-append, seat_of, seats_of}
use Rattle.uring_effect_points.proofs.Searching.{passed_one, dropped_one}
use Rattle.uring_effect_points.proofs.search.pass.Goals as goal

pub returns-in_ok-push-clause-replaces : goal.returns-in_ok-push-clause-replaces
returns-in_ok-push-clause-replaces g c =
    let past = c.in_ok-pass.ensures.passes (search rules) in
    passed_one c.args.count c.args.marks.now (seat_of c.args.state) (seat_of c.pass.new.self) (seats_of c.args.todo.now.items) (seats_of c.push.new.list.items) c.requires.placed c.requires.before c.requires.waits past.0 past.1 (ap seats_of c.in_ok-push.ensures.items ∙ map-append seat_of c.args.todo.now.items (c.pass.new.self ∷ []))

pub returns-else-branch-clause-replaces : goal.returns-else-branch-clause-replaces
returns-else-branch-clause-replaces g c =
    dropped_one c.args.count c.args.marks.now (seat_of c.args.state) (seats_of c.args.todo.now.items) c.requires.before c.requires.waits (c.in_ok-pass.ensures.stays (search rules))
