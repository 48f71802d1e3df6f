use Rattle.std.proofs.Common.{◌≡◌, take}
use Rattle.uring_reconstruct.proofs.Common.{FitsApart, history_of}
use Rattle.uring_reconstruct.proofs.replay.replay.Given as goal

-- the events so far are a lawful history
abbrev pub invariant-loop-event : goal.invariant-loop-event
invariant-loop-event g l = record {
  setup : l.core.setup ≡ l.fn.core.setup;
  fits : FitsApart l.core (history_of (take l.event-index l.events));
}
