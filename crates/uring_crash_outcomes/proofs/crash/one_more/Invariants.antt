use Rattle.std.proofs.Common.{◌≡◌, take, map}
use Rattle.uring_crash_outcomes.proofs.crash.one_more.Given as goal

abbrev pub invariant-loop-list : goal.invariant-loop-list
invariant-loop-list g l = map (λ b. b.items) l.more.items ≡ map (λ b. b.items) (take l.list-index l.lists)
