use Rattle.std.proofs.Common.{◌≡◌, ◌+◌, ◌*◌, ◌≤◌, length, take}
use Rattle.uring_threads.proofs.Common.{Appends, all_published_as, items_row, now, with_items_put}
use Rattle.uring_threads.proofs.calls.publish_items.Given as goal

-- the items so far are put, with at most two events each
abbrev pub invariant-loop-item : goal.invariant-loop-item
invariant-loop-item l = record {
  slot : l.slot ≡ l.item-index;
  events : length l.kept.trace ≤ length l.initial.kept.trace + 2 * l.item-index;
  world : now l.kept ≡ with_items_put (now l.initial.kept) (all_published_as (take l.item-index l.items));
  row : Appends l.initial.kept l.kept (items_row 0 (take l.item-index l.items));
}
