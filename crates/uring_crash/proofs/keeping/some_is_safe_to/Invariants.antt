use Rattle.std.proofs.Common.{◌≡◌, false, take}
use Rattle.uring_crash.proofs.Common.{is_safe_to, list_any}
use Rattle.uring_crash.proofs.keeping.some_is_safe_to.Given as goal

abbrev pub invariant-loop-write : goal.invariant-loop-write
invariant-loop-write l = list_any (is_safe_to l.end) (take l.write-index l.kept) ≡ false
