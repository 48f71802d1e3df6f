use Rattle.std.proofs.Common.{◌≡◌, ℕ, List, [], ◌∷◌, ◌++◌, length, subst, ap, ◌∙◌}
use Rattle.uring_effect_points.proofs.Common.{IsSearch, Mark, State, map-append, seat_of, seats_of}
use Rattle.uring_effect_points.proofs.Searching.{before_end, found, goes_on, last_placed}
use Rattle.uring_effect_points.proofs.search.search_one.Goals as goal

popped : (count : ℕ) (marks : List Mark) (todo rest : List State) (s : State) → todo ≡ rest ++ s ∷ []
    → IsSearch count marks (seats_of todo) → IsSearch count marks (seats_of rest ++ seat_of s ∷ [])
popped count marks todo rest s is =
    subst (IsSearch count marks) (ap seats_of is ∙ map-append seat_of rest (s ∷ []))

pub returns-then-state-marks-clause-fate : goal.returns-then-state-marks-clause-fate
returns-then-state-marks-clause-fate g c =
    found c.args.count c.args.marks.now (seats_of c.pop.new.self.items) (seat_of c.in-Some.state) (popped _ _ _ _ _ c.in-Some.ensures.items c.requires.stands) c.if-state-marks.true

pub replace-requires-clause-placed : goal.replace-requires-clause-placed
replace-requires-clause-placed g c =
    last_placed c.args.count c.args.marks.now (seats_of c.pop.new.self.items) (seat_of c.in-Some.state) (popped _ _ _ _ _ c.in-Some.ensures.items c.requires.stands)

pub replace-requires-clause-before : goal.replace-requires-clause-before
replace-requires-clause-before g c =
    let placed = last_placed c.args.count c.args.marks.now (seats_of c.pop.new.self.items) (seat_of c.in-Some.state) (popped _ _ _ _ _ c.in-Some.ensures.items c.requires.stands) in
    before_end c.in-Some.state.place (length c.args.marks.now) placed.within c.if-state-marks.false

pub returns-clause-fate : goal.returns-clause-fate
returns-clause-fate g c =
    goes_on c.args.count c.args.marks.now (seats_of c.pop.new.self.items) (seats_of c.replace.new.todo.items) (seat_of c.in-Some.state) (popped _ _ _ _ _ c.in-Some.ensures.items c.requires.stands) c.in_ok-replace.ensures.replaces
