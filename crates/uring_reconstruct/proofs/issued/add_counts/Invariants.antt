use Rattle.std.proofs.Common.{◌≡◌, ℕ, ◌+◌, ◌<◌, true, false, Option}
use Rattle.uring_reconstruct.proofs.Common.{Adds, Contains, Cqe, FitsApart, History, count_result, is_outstanding, posts, world}
use Rattle.uring_reconstruct.proofs.Adding.{issued_as}
use Rattle.uring_reconstruct.proofs.issued.add_counts.Given as goal

-- the ends with the numbers so far are there
abbrev pub invariant-loop-below : goal.invariant-loop-below
invariant-loop-below g l = record {
  adds : (wanted : Option Cqe) → Adds l.core wanted l.fn.next.items l.next.items;
  some : (j : ℕ) → j < l.below → (h : History) → FitsApart l.core h
      → is_outstanding (world l.core.setup h).requests l.number ≡ true
      → posts l.core.setup.linux (world l.core.setup h).requests l.number (count_result (j + 1)) ≡ false
      → Contains l.next.items (issued_as l.number (count_result (j + 1)));
}
