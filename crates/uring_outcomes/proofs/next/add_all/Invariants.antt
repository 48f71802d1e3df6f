use Rattle.std.proofs.Common.{◌≡◌, ◌+◌, ◌*◌, Some}
use Rattle.uring_outcomes.proofs.Common.{AreRanked, CanAll, Contains, HasBelow, Moment, StandsAt, entries_of, moved}
use Rattle.uring_outcomes.specs.declared.move_of_calls.Move.TheVariants as move
use Rattle.uring_outcomes.proofs.next.add_all.Given as goal

-- what can be made of the requests so far is there
abbrev pub invariant-loop-number : goal.invariant-loop-number
invariant-loop-number g l = record {
  accepts : (m next : Moment) → StandsAt (entries_of l.calls) l.run m → moved m move.Accept ≡ Some next → Contains l.moves.items move.Accept;
  below : (m : Moment) → StandsAt (entries_of l.calls) l.run m → HasBelow m l.number l.moves.items;
  right : (m : Moment) → StandsAt (entries_of l.calls) l.run m → CanAll m l.moves.items;
  ranks : AreRanked (l.number * 2 + 1) l.moves.items;
}
