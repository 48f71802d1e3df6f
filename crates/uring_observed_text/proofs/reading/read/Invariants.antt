use Rattle.std.proofs.Common.{map, take}
use Rattle.uring_observed_text.proofs.OneLine.{AreRead}
use Rattle.uring_observed_text.proofs.reading.read.Given as goal

-- the lines so far are read
abbrev pub invariant-loop-place : goal.invariant-loop-place
invariant-loop-place g l =
    AreRead l.fn.core.setup (take l.place (map (λ line. line.now) l.lines)) l.core l.events.items (map (λ line. line.now) l.shown.items)
