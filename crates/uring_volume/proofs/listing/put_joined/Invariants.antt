use Rattle.std.proofs.Common.{◌≡◌, ◌++◌, map, drop}
use Rattle.uring_volume.proofs.listing.put_joined.Given as goal

abbrev pub invariant-loop-end : goal.invariant-loop-end
invariant-loop-end g l =
    map (λ b. b.items) l.files.items ++ map (λ e. l.front ++ e) (map (λ b. b.items) (drop l.end-index l.ends))
    ≡ map (λ b. b.items) l.initial.files.items ++ map (λ e. l.front ++ e) (map (λ b. b.items) l.ends)
