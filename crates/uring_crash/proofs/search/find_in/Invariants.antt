use Rattle.std.proofs.Common.{ℕ, map, take, List}
use Rattle.uring_crash.proofs.Common.{Holds, IsIn}
use Rattle.uring_crash.proofs.search.find_in.Given as goal

abbrev pub invariant-loop-image : goal.invariant-loop-image
invariant-loop-image g l =
    (now : List ℕ) → IsIn now (map (λ b. b.items) (take l.image-index l.images)) → Holds l.off l.bytes now
