use Rattle.std.proofs.Common.{◌≡◌, take}
use Rattle.uring_litmus.specs.Items.{accepted_of}
use Rattle.uring_litmus.proofs.calls.entries_of_call.Given as goal

abbrev pub invariant-loop-item : goal.invariant-loop-item
invariant-loop-item g l = l.entries.items ≡ accepted_of (take l.item-index l.items)
