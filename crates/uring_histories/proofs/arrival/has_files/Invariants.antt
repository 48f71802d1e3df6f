use Rattle.std.proofs.Common.{◌≡◌, ◌<◌, ℕ, pos}
use Rattle.uring_histories.proofs.Common.{Fits, History, file_of, files_of, world}
use Rattle.uring_histories.proofs.arrival.has_files.Given as goal

abbrev pub invariant-loop-fd : goal.invariant-loop-fd
invariant-loop-fd l = (h : History) → Fits l.machine h → (k : ℕ) → k < l.fd
    → file_of (files_of l.machine.core.setup (world l.machine.core.setup h)) (pos k) ≡ file_of l.files (pos k)
