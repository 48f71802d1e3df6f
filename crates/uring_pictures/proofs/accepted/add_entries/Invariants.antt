use Rattle.std.proofs.Common.{◌≡◌, ◌≤◌, length, take}
use Rattle.uring_pictures.proofs.Common.{HasAll, History, world}
use Rattle.uring_machine.specs.Machine.{Fits}
use Rattle.uring_pictures.proofs.accepted.add_entries.Given as goal

-- the entries so far
abbrev pub invariant-loop-number : goal.invariant-loop-number
invariant-loop-number g l = record {
  from : length l.fn.entries.items ≤ l.number;
  entries : (h : History) → Fits l.fn.machine h → l.fn.accepted ≡ length (world l.fn.machine.core.setup h).requests.accepted
      → HasAll l.fn.entries.items (world l.fn.machine.core.setup h).requests
      → l.entries.items ≡ take l.number (world l.fn.machine.core.setup h).requests.accepted;
}
