use Rattle.std.proofs.Common.{◌≡◌, ◌+◌, ◌≤◌, length}
use Rattle.uring_rings.proofs.Common.{Completions, Setup, ShowsCompletions}
use Rattle.uring_rings.proofs.cq.Cq.flush.Given as goal

-- as many completions have left the overflow list as were moved, and the ring shows them as put
abbrev pub invariant-loop-moved : goal.invariant-loop-moved
invariant-loop-moved l =
    record {
      waiting : l.moved + length l.self.overflow ≡ length l.initial.self.overflow;
      room : l.self.room ≡ l.initial.self.room;
      kept : length l.initial.self.overflow + l.initial.self.spare ≤ length l.self.overflow + l.self.spare;
      shows : (g : Setup) (m : Completions) → ShowsCompletions g l.initial.self m → ShowsCompletions g l.self (record m { put = m.put + l.moved });
    }

abbrev pub decreases-loop-moved : goal.decreases-loop-moved
decreases-loop-moved l = length l.self.overflow
