use Rattle.std.proofs.Common.{◌≡◌, ◌<◌, ◌≤◌, ℕ, get_or}
use Rattle.uring_ffi_values.proofs.volumes.volume_memory.give_numbers.Given as goal

abbrev pub invariant-loop-k : goal.invariant-loop-k
invariant-loop-k l = record {
  given : (j : ℕ) → j < l.k → get_or l.numbers j 0 ≡ get_or l.now j 0;
  rest : (j : ℕ) → l.k ≤ j → get_or l.numbers j 0 ≡ get_or l.initial.numbers j 0;
}
