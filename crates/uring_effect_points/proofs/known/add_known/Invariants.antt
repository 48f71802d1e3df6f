use Rattle.std.proofs.Common.{◌≡◌, [], take}
use Rattle.uring_effect_points.proofs.Common.{FitsApart, IssuesMeet, history_of, known_marks}
use Rattle.uring_effect_points.proofs.known.add_known.Given as goal

-- the events so far are a lawful history, their marks are there, and their issues have the bytes that are known
abbrev pub invariant-loop-event : goal.invariant-loop-event
invariant-loop-event g l = record {
  setup : l.core.setup ≡ l.fn.core.setup;
  fits : FitsApart l.core (history_of (take l.event-index l.events));
  meet : IssuesMeet l.fn.core.setup l.told [] (take l.event-index l.events);
  marks : l.marks.items ≡ known_marks l.fn.core.setup l.told [] (take l.event-index l.events);
}
