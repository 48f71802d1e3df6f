use Rattle.std.proofs.Common.{◌≡◌, ◌≤◌}
use Rattle.std.specs.VecDeque.{deque_len, deque_capacity}
use Rattle.uring_linux.specs.Drains.{from_drain}
use Rattle.uring_linux.proofs.drains.go_on.Given as goal

abbrev pub invariant-loop-groups : goal.invariant-loop-groups
invariant-loop-groups l = record {
  items : from_drain l.groups.items ≡ from_drain l.initial.groups.items;
  shorter : deque_len l.groups ≤ deque_len l.initial.groups;
  capacity : deque_capacity l.groups ≡ deque_capacity l.initial.groups;
}

abbrev pub decreases-loop-groups : goal.decreases-loop-groups
decreases-loop-groups l = deque_len l.groups
