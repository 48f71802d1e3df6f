use Rattle.std.proofs.Common.{ℕ, [], take}
use Rattle.uring_crash_outcomes.proofs.Common.{HasMade, Setup, entries_of}
use Rattle.uring_crash_outcomes.proofs.trial.Trial.replay.Given as goal

-- the moves so far were made
abbrev pub invariant-loop-next : goal.invariant-loop-next
invariant-loop-next g l =
    (unit : ℕ) (g : Setup) → HasMade unit g (entries_of l.calls) [] l.fn.self.run l.fn.self.logs.items
    → HasMade unit g (entries_of l.calls) (take l.next-index l.path) l.self.run l.self.logs.items
