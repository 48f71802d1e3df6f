use Rattle.std.proofs.Common.{◌≡◌, [], take}
use Rattle.uring_effect_points.proofs.Common.{FitsApart, history_of, marks_after}
use Rattle.uring_effect_points.proofs.marks.add_marks.Given as goal

-- the events so far are a lawful history, and their marks are there
abbrev pub invariant-loop-event : goal.invariant-loop-event
invariant-loop-event g l = record {
  setup : l.core.setup ≡ l.fn.core.setup;
  fits : FitsApart l.core (history_of (take l.event-index l.events));
  marks : l.marks.items ≡ marks_after l.fn.core.setup [] (take l.event-index l.events);
}
