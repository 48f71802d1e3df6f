use Rattle.std.proofs.Common.{ℕ, ◌<◌, ◌≤◌}
use Rattle.uring_dispatch.specs.Waiting.{IsListedAt, Keeps}
use Rattle.uring_dispatch.proofs.waiting.Waiting.relist_range.Given as goal

abbrev pub invariant-loop-n : goal.invariant-loop-n
invariant-loop-n l =
    record {
      here : (k : ℕ) → l.from ≤ k → k < l.n → IsListedAt l.grouped.window l.grouped.groups l.self k;
      keeps : Keeps l.grouped.window l.grouped.groups l.initial.self l.self;
    }
