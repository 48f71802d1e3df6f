use Rattle.std.proofs.Common.{◌≡◌, ◌++◌, take}
use Rattle.uring_litmus.proofs.Common.{texts_of}
use Rattle.uring_litmus.proofs.CrashLines.{bytes_of}
use Rattle.uring_litmus.specs.Crashes.{left_texts}
use Rattle.uring_litmus.proofs.crashes.add_left.Given as goal

abbrev pub invariant-loop-fd : goal.invariant-loop-fd
invariant-loop-fd g l = texts_of l.parts.items
    ≡ texts_of l.fn.parts.items ++ left_texts 0 (bytes_of (take l.fd l.left))
