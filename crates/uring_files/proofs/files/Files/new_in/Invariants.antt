use Rattle.std.proofs.Common.{◌≡◌, ◌≤◌, replicate, vec_len}
use Rattle.std.specs.Vec.{vec_capacity}
use Rattle.uring_files.specs.Contents.{empty_file}
use Rattle.uring_files.proofs.files.Files.new_in.Given as goal

abbrev pub invariant-loop : goal.invariant-loop
invariant-loop g l = record {
  made : l.files.items ≡ replicate l.counter empty_file;
  size : vec_len l.files ≡ l.counter;
  room : l.count ≤ vec_capacity l.files;
}
