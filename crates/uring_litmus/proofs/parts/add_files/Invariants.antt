use Rattle.std.proofs.Common.{◌≡◌, ◌++◌, take}
use Rattle.uring_litmus.specs.Parts.{texts_of, files_texts}
use Rattle.uring_litmus.proofs.parts.add_files.Given as goal

abbrev pub invariant-loop-fd : goal.invariant-loop-fd
invariant-loop-fd g l = texts_of l.parts.items ≡ texts_of l.fn.parts.items ++ files_texts 0 (take l.fd l.files)
