use Rattle.std.proofs.Common.{◌≡◌, ◌+◌, ◌-◌, ◌≤◌, drop}
use Rattle.std.specs.VecDeque.{deque_len, deque_capacity}
use Rattle.uring_linux.proofs.window.drop_before.Given as goal

abbrev pub invariant-loop-first : goal.invariant-loop-first
invariant-loop-first l = record {
  low : l.initial.first ≤ l.first;
  high : l.first ≤ l.to;
  items : l.items.items ≡ drop (l.first - l.initial.first) l.initial.items.items;
  len : deque_len l.items + l.first ≡ deque_len l.initial.items + l.initial.first;
  capacity : deque_capacity l.items ≡ deque_capacity l.initial.items;
}

abbrev pub decreases-loop-first : goal.decreases-loop-first
decreases-loop-first l = l.to - l.first
