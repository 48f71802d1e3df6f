use Rattle.std.proofs.Common.{◌≡◌, ◌<◌, ◌≤◌, ◌-◌, max, ℕ, get_or}
use Rattle.uring_volume.proofs.crash.write_over.Given as goal

abbrev pub invariant-loop-k : goal.invariant-loop-k
invariant-loop-k l = record {
  written : (j : ℕ) → l.start ≤ j → j < l.k → get_or l.now j 0 ≡ get_or l.bytes (j - l.off) 0;
  below : (j : ℕ) → j < l.start → get_or l.now j 0 ≡ get_or l.initial.now j 0;
  rest : (j : ℕ) → l.k ≤ j → get_or l.now j 0 ≡ get_or l.initial.now j 0;
  within : l.k ≤ max l.start l.end;
}
