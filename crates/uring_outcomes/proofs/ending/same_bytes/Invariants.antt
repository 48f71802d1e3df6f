use Rattle.std.proofs.Common.{◌≡◌, ℕ, ◌<◌}
use Rattle.uring_files.specs.Operations.{byte_of}
use Rattle.uring_outcomes.proofs.ending.same_bytes.Given as goal

abbrev pub invariant-loop-at : goal.invariant-loop-at
invariant-loop-at l = (k : ℕ) → k < l.at → byte_of l.one l.fd k ≡ byte_of l.other l.fd k
