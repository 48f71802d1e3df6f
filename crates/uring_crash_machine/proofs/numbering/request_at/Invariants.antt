use Rattle.std.proofs.Common.{◌≡◌, false, take}
use Rattle.uring_crash_machine.specs.Logs.{has_number}
use Rattle.uring_crash_machine.proofs.numbering.request_at.Given as goal

abbrev pub invariant-loop-p : goal.invariant-loop-p
invariant-loop-p l = has_number l.number (take l.p-index l.numbers) ≡ false
