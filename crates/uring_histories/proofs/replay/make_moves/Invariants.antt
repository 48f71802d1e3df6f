use Rattle.std.proofs.Common.{take}
use Rattle.uring_histories.specs.Recordings.{IsAmid, published_in}
use Rattle.uring_histories.proofs.replay.make_moves.Given as goal

abbrev pub invariant-loop-next : goal.invariant-loop-next
invariant-loop-next l = IsAmid l.setup l.recording (published_in (take l.done l.calls))
