use Rattle.std.proofs.Common.{◌≡◌, ◌≤◌, length, map, take, vec_capacity}
use Rattle.uring_ffi_values.proofs.volumes.volume_memory.lengths.Given as goal

abbrev pub invariant-loop-list : goal.invariant-loop-list
invariant-loop-list g l = record {
  lengths : l.lengths.items ≡ map (λ bytes. length bytes) (map (λ b. b.items) (take l.list-index l.lists));
  room : length l.lists ≤ vec_capacity l.lengths;
}
