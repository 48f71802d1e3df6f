use Rattle.std.proofs.Common.{◌≡◌, ◌++◌, take}
use Rattle.uring_play_text.specs.Inputs.{lists_of}
use Rattle.uring_play.specs.Threads.{StaysApp}
use Rattle.uring_play.proofs.ends.Application.submit_all.Given as goal

-- so many calls were submitted
abbrev pub invariant-loop-call : goal.invariant-loop-call
invariant-loop-call g l = record {
  calls : l.self.app.submitted.calls ≡ l.fn.self.app.submitted.calls ++ lists_of (take l.call-index l.calls);
  closed : l.self.app.submitted.closed ≡ l.fn.self.app.submitted.closed;
  stays : StaysApp l.fn.self.app l.self.app;
}
