use Rattle.std.proofs.Common.{◌≡◌, ◌+◌, ◌<◌, ℕ, true}
use Rattle.uring_crash.proofs.Common.{is_kept_byte, slice_index}
use Rattle.uring_crash.proofs.keeping.keeps.Given as goal

abbrev pub invariant-loop-j : goal.invariant-loop-j
invariant-loop-j l = (i : ℕ) → i < l.j → is_kept_byte l.kept (l.off + i) (slice_index l.bytes i) ≡ true
