use Rattle.std.proofs.Common.{◌≡◌, Some, pos, length, take}
use Rattle.uring_files.specs.Contents.{FileContents}
use Rattle.uring_files.specs.Operations.{file_of}
use Rattle.uring_litmus.proofs.parts.bytes_of.Given as goal

abbrev pub invariant-loop-at : goal.invariant-loop-at
invariant-loop-at g l = (file : FileContents) → file_of l.files (pos l.fd) ≡ Some file
    → length file.bytes ≡ l.len → l.bytes.items ≡ take l.at file.bytes
