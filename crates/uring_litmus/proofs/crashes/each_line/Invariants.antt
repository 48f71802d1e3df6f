use Rattle.std.proofs.Common.{◌≡◌, map, take}
use Rattle.uring_litmus.proofs.Common.{texts_of}
use Rattle.uring_litmus.specs.Crashes.{crash_line}
use Rattle.uring_litmus.proofs.crashes.each_line.Given as goal

abbrev pub invariant-loop-crash : goal.invariant-loop-crash
invariant-loop-crash g l = texts_of l.lines.items ≡ map crash_line (take l.crash-index l.crashes)
