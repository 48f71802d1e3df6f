use Rattle.std.proofs.Common.{◌≡◌, ℕ, ◌<◌, pos}
use Rattle.uring_files.specs.Operations.{file_of}
use Rattle.uring_outcomes.proofs.ending.same_files.Given as goal

abbrev pub invariant-loop-fd : goal.invariant-loop-fd
invariant-loop-fd l = (k : ℕ) → k < l.fd → file_of l.one (pos k) ≡ file_of l.other (pos k)
