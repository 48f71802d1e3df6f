use Rattle.std.proofs.Common.{◌≡◌, ◌++◌, map, drop}
use Rattle.uring_volume.specs.Ways.{files_of}
use Rattle.uring_volume.proofs.listing.files_of_lengths.Given as goal

abbrev pub invariant-loop-len : goal.invariant-loop-len
invariant-loop-len g l =
    map (λ b. b.items) l.all.items ++ files_of l.unit l.first l.past.history (drop l.len-index l.lengths)
    ≡ files_of l.unit l.first l.past.history l.lengths
