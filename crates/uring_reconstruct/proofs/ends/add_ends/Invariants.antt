use Rattle.std.proofs.Common.{ℕ, ◌+◌, ◌<◌, ◌≤◌, List}
use Rattle.uring_reconstruct.proofs.Common.{Adds, Event, HasEndsOf, History, StandsAt}
use Rattle.uring_reconstruct.proofs.ends.add_ends.Given as goal

-- the ends of the last requests so far are there
abbrev pub invariant-loop-place : goal.invariant-loop-place
invariant-loop-place g l = record {
  adds : Adds l.core l.wanted l.fn.next.items l.next.items;
  all : (seen : List Event) (h : History) (n : ℕ) → StandsAt l.core seen l.wanted h → n < l.accepted → l.accepted ≤ n + l.place
      → HasEndsOf l.core.setup seen h n l.next.items;
}
