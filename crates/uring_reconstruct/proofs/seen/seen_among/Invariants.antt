use Rattle.std.proofs.Common.{◌≡◌, ◌≤◌, length, take}
use Rattle.uring_reconstruct.proofs.Common.{history_of, seen_in}
use Rattle.uring_reconstruct.proofs.seen.seen_among.Given as goal

abbrev pub invariant-loop-event : goal.invariant-loop-event
invariant-loop-event l = record {
  counted : l.count ≡ length (seen_in (history_of (take l.event-index l.events)));
  few : l.count ≤ l.event-index;
}
