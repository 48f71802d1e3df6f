use Rattle.std.proofs.Common.{◌≡◌, ◌≤◌, count_by, take}
use Rattle.std.specs.Prelude.{nat_le}
use Rattle.uring_pictures.proofs.accepted.Accepted.call.Given as goal

-- how many of those so far
abbrev pub invariant-loop-cut : goal.invariant-loop-cut
invariant-loop-cut l = record {
  count : l.count ≡ count_by (λ cut. nat_le cut l.number) (take l.cut-index l.self.cuts.items);
  below : l.count ≤ l.cut-index;
}
