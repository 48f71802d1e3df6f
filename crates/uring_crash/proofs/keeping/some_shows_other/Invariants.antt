use Rattle.std.proofs.Common.{◌≡◌, false, take}
use Rattle.uring_crash.proofs.Common.{shows_other, list_any}
use Rattle.uring_crash.proofs.keeping.some_shows_other.Given as goal

abbrev pub invariant-loop-shown : goal.invariant-loop-shown
invariant-loop-shown l = list_any (shows_other l.kept l.k l.byte) (take l.shown-index l.kept) ≡ false
