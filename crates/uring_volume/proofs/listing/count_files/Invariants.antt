use Rattle.std.proofs.Common.{◌≡◌, ◌≤◌, ◌+◌, ◌-◌, ◌^◌, min, length, drop}
use Rattle.uring_volume.specs.Ways.{files_of}
use Rattle.uring_volume.proofs.listing.count_files.Given as goal

abbrev pub invariant-loop-len : goal.invariant-loop-len
invariant-loop-len g l = record {
  sum : min (l.count + length (files_of l.unit l.first l.past.history (drop l.len-index l.lengths))) (2 ^ 64 - 1)
      ≡ min (length (files_of l.unit l.first l.past.history l.lengths)) (2 ^ 64 - 1);
  small : l.count ≤ 2 ^ 64 - 1;
}
