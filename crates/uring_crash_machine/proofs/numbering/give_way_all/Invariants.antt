use Rattle.std.proofs.Common.{◌≡◌, ◌++◌, map, take, drop}
use Rattle.uring_crash_machine.specs.Logs.{unless_last}
use Rattle.uring_crash_machine.proofs.numbering.give_way_all.Given as goal

abbrev pub invariant-loop-i : goal.invariant-loop-i
invariant-loop-i l = l.numbers ≡ map (unless_last l.n) (take l.i l.initial.numbers) ++ drop l.i l.initial.numbers
