use Rattle.std.proofs.lemmas.List.Filters.{dedup_is}
use Rattle.uring_litmus.proofs.SortedOnce.{sorted_once}
use Rattle.uring_litmus.proofs.lines.sort_once.Goals as goal

pub returns : goal.returns
returns c =
    sorted_once c.args.lines.now.items c.sort_unstable.new.self.items c.dedup.new.self.items c.sort_unstable.ensures.permutation c.sort_unstable.ensures.sorted (dedup_is _ _ _ c.dedup.ensures.filtered)
