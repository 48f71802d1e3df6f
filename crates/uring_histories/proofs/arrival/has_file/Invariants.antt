use Rattle.std.proofs.Common.{◌≡◌, ◌<◌, ℕ}
use Rattle.uring_histories.proofs.Common.{Fits, History, byte_of, files_of, world}
use Rattle.uring_histories.proofs.arrival.has_file.Given as goal

abbrev pub invariant-loop-at : goal.invariant-loop-at
invariant-loop-at l = (h : History) → Fits l.machine h → (k : ℕ) → k < l.at
    → byte_of (files_of l.machine.core.setup (world l.machine.core.setup h)) l.fd k ≡ byte_of l.files l.fd k
