use Rattle.std.proofs.Common.{◌≡◌, ◌≤◌, Some, take, vec_len}
use Rattle.uring_effect_points.proofs.Common.{FileContents, slice_get}
use Rattle.uring_effect_points.proofs.copies.bytes_of.Given as goal

abbrev pub invariant-loop-at : goal.invariant-loop-at
invariant-loop-at g l = record {
  read : (f : FileContents) → slice_get l.files l.fd ≡ Some f → l.bytes.items ≡ take l.at f.bytes;
  few : vec_len l.bytes ≤ l.at;
}
