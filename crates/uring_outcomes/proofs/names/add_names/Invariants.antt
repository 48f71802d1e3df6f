use Rattle.std.proofs.Common.{take}
use Rattle.uring_outcomes.proofs.Common.{AreNamed, among, entries_of}
use Rattle.uring_outcomes.proofs.names.add_names.Given as goal

-- those of the calls so far are there
abbrev pub invariant-loop-call : goal.invariant-loop-call
invariant-loop-call g l = AreNamed (among l.names.items) (entries_of (take l.call-index l.calls))
