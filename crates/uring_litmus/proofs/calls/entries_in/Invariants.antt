use Rattle.std.proofs.Common.{◌≡◌, map, take}
use Rattle.uring_outcomes.specs.Runs.{entries_of}
use Rattle.uring_litmus.proofs.Common.{accepted_of, lists_of}
use Rattle.uring_litmus.proofs.calls.entries_in.Given as goal

abbrev pub invariant-loop-call : goal.invariant-loop-call
invariant-loop-call g l = entries_of l.all.items ≡ map accepted_of (lists_of (take l.call-index l.calls))
