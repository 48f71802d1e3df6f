use Rattle.uring_dispatch.proofs.Choosing.{AreChosen}
use Rattle.uring_dispatch.proofs.outstanding.Outstanding.choose_targets.Given as goal

abbrev pub invariant-loop-m : goal.invariant-loop-m
invariant-loop-m l = AreChosen l.initial.self l.self l.n l.user_data l.m l.count
