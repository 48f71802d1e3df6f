use Rattle.std.proofs.Common.{◌≡◌, ◌<◌, ℕ, slice_index_or}
use Rattle.uring_register.proofs.rings.enrolled.begin_rows.Given as goal

abbrev pub invariant-loop-i : goal.invariant-loop-i
invariant-loop-i l = (number : ℕ) → number < l.i → slice_index_or l.rows number 0 ≡ 0
