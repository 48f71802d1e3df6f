use Rattle.std.proofs.Common.{◌≡◌, ◌<◌, ◌≤◌, ◌+◌, ◌/◌, ℕ, length, get_or}
use Rattle.uring_volume.proofs.Common.{byte_over, chosen, filter, is_on, issued, part}
use Rattle.uring_volume.proofs.crash.leave_units.Given as goal

abbrev pub invariant-loop-i : goal.invariant-loop-i
invariant-loop-i g l = record {
  rest : (j : ℕ) → part l.rest j ≡ part l.choice (l.i + j);
  done : (k : ℕ) → k < length l.now → k / l.unit < l.i
      → get_or l.now k 0 ≡ byte_over (get_or l.initial.now k 0)
      (chosen l.past.history (filter (is_on l.unit (k / l.unit)) (issued l.past.history)) (part l.choice (k / l.unit))) k;
  todo : (k : ℕ) → l.i ≤ k / l.unit → get_or l.now k 0 ≡ get_or l.initial.now k 0;
}
