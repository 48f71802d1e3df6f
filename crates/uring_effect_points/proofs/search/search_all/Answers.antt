use Rattle.std.proofs.Common.{ℕ, List, [], ◌∷◌, ◌++◌, ap, sym, subst, ◌∙◌}
use Rattle.uring_effect_points.proofs.Common.{Fate, HasFate, IsFated, IsSearch, Mark, Seat, State, seat_of, seats_of}
use Rattle.uring_effect_points.specs.declared.search.Fate.TheVariants.{Explained, Over, Open}
use Rattle.uring_effect_points.proofs.Searching.{begins}
use Rattle.uring_effect_points.proofs.search.search_all.Goals as goal

fated : (count : ℕ) (marks : List Mark) (todo : List Seat) (fate : Fate) → HasFate count marks todo fate → IsFated count marks fate
fated count marks todo Explained has = has
fated count marks todo Over has = has
fated count marks todo Open has = tt

pub moves-init : goal.moves-init
moves-init g c =
    subst (λ (xs : List State). IsSearch c.args.count c.args.marks.now (seats_of xs)) (sym (c.in_ok-push.ensures.items ∙ ap (λ (xs : List State). xs ++ c.in_ok-first.first ∷ []) c.requires.none)) (begins c.args.count c.args.marks.now (seat_of c.in_ok-first.first) c.in_ok-first.ensures.first)

pub moves-preserved : goal.moves-preserved
moves-preserved g c = subst (HasFate c.args.count c.args.marks.now (seats_of c.search_one.new.todo.items)) c.in-Open.is c.in_ok-fate.ensures.fate

pub returns-in_default-clause-fate : goal.returns-in_default-clause-fate
returns-in_default-clause-fate g c = fated c.args.count c.args.marks.now (seats_of c.search_one.new.todo.items) _ c.in_ok-fate.ensures.fate
