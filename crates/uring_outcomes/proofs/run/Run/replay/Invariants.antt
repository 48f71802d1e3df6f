use Rattle.std.proofs.Common.{take}
use Rattle.uring_outcomes.proofs.Common.{LedTo, Moment, Stands, StandsAt, entries_of}
use Rattle.uring_outcomes.proofs.run.Run.replay.Given as goal

-- the moves so far were made
abbrev pub invariant-loop-next : goal.invariant-loop-next
invariant-loop-next g l = record {
  stands : Stands (entries_of l.calls) l.self;
  led : (m : Moment) → StandsAt (entries_of l.calls) l.fn.self m → LedTo (entries_of l.calls) m (take l.next-index l.path) l.self;
}
