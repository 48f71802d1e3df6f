use Rattle.std.proofs.Common.{◌≡◌}
use Rattle.uring_trace.proofs.Common.{History, addr_of, entry_of, is_target, said, string_bytes, world}
use Rattle.uring_core.specs.Core.{FitsApart}
use Rattle.uring_entry.specs.Below.{all_below}
use Rattle.uring_trace.proofs.chosen.push_targets.Given as goal

-- the targets so far
abbrev pub invariant-loop-other : goal.invariant-loop-other
invariant-loop-other g l =
    (h : History) → FitsApart l.fn.core h → l.fn.sought ≡ addr_of (entry_of (world l.fn.core.setup h).requests l.fn.number)
    → string_bytes l.text ≡ said (all_below (is_target (world l.fn.core.setup h).requests l.fn.number) l.other)
