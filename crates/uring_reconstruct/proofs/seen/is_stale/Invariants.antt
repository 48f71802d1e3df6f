use Rattle.std.proofs.Common.{◌≡◌, take}
use Rattle.uring_core.specs.Histories.{history_of}
use Rattle.uring_reconstruct.specs.Parts as parts
use Rattle.uring_reconstruct.proofs.seen.is_stale.Given as goal

abbrev pub invariant-loop-event : goal.invariant-loop-event
invariant-loop-event l = l.stale ≡ parts.is_stale (history_of (take l.event-index l.events))
