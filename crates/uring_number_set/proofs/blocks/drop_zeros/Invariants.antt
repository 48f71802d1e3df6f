use Rattle.std.proofs.Common.{◌≡◌, ℕ, ◌+◌, ◌≤◌}
use Rattle.std.specs.Prelude.{vec_len, vec_capacity}
use Rattle.uring_number_set.specs.NumberSet.{block_of}
use Rattle.uring_number_set.proofs.blocks.drop_zeros.Given as goal

abbrev pub invariant-loop-first : goal.invariant-loop-first
invariant-loop-first l =
    record {
      start : (m : ℕ) → l.initial.first ≤ m → l.place ≤ m → l.first ≤ m;
      same : (i : ℕ) → block_of l.first l.blocks.items i ≡ block_of l.initial.first l.initial.blocks.items i;
      stop : l.first + vec_len l.blocks ≡ l.initial.first + vec_len l.initial.blocks;
      longer : l.initial.first ≤ l.first;
      capacity : vec_capacity l.blocks ≡ vec_capacity l.initial.blocks;
    }

abbrev pub decreases-loop-first : goal.decreases-loop-first
decreases-loop-first l = vec_len l.blocks
