use Rattle.std.proofs.Common.{◌≡◌, ◌≤◌, length, take}
use Rattle.uring_observed_text.proofs.Common.{history_of, seen_in}
use Rattle.uring_observed_text.proofs.HistoryLines.{IsWritten}
use Rattle.uring_observed_text.proofs.writing.push_events.Given as goal

-- the events so far are written, and so many of them were seen
abbrev pub invariant-loop-event : goal.invariant-loop-event
invariant-loop-event g l = record {
  counted : l.count ≡ length (seen_in (history_of (take l.event-index l.events)));
  few : l.count ≤ l.event-index;
  written : IsWritten l.fn.text.items l.text.items (history_of (take l.event-index l.events));
}
