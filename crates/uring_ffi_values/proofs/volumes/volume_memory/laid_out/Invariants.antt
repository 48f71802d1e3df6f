use Rattle.std.proofs.Common.{◌≡◌, ◌++◌, map, drop}
use Rattle.uring_ffi_values.specs.Volumes.VolumeForms.{laid_out}
use Rattle.uring_ffi_values.proofs.volumes.volume_memory.laid_out.Given as goal

abbrev pub invariant-loop-list : goal.invariant-loop-list
invariant-loop-list g l =
    l.all.items ++ laid_out (map (λ b. b.items) (drop l.list-index l.lists)) ≡ laid_out (map (λ b. b.items) l.lists)
