use Rattle.std.proofs.Common.{◌≡◌, ◌+◌, ◌++◌, take}
use Rattle.uring_outcomes.proofs.Common.{Requests, ShowsRequests}
use Rattle.uring_outcomes.proofs.run.accept_call.Given as goal

-- the entries so far are accepted, and there is room for the rest
abbrev pub invariant-loop-entry : goal.invariant-loop-entry
invariant-loop-entry l = record {
  shows : (r : Requests) → ShowsRequests l.fn.dispatch r → ShowsRequests l.dispatch (record r { accepted = r.accepted ++ take l.entry-index l.entries });
  room : l.dispatch.room + l.entry-index ≡ l.fn.dispatch.room;
}
