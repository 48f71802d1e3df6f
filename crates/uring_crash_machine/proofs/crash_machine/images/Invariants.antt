use Rattle.std.proofs.Common.{map}
use Rattle.uring_crash_machine.proofs.EpochCrashes.{ImagesUpTo}
use Rattle.uring_crash_machine.proofs.crash_machine.images.Given as goal

abbrev pub invariant-loop-place : goal.invariant-loop-place
invariant-loop-place g l = ImagesUpTo l.logs (map (λ c. c.items) l.choices) (map (λ b. b.items) l.left.items) l.place
