use Rattle.std.proofs.Common.{◌≡◌, ℕ, ◌<◌, Some, get_or}
use Rattle.std.specs.Prelude.{slice_get}
use Rattle.uring_outcomes.proofs.endings.is_at.Given as goal

-- it is at none of the places so far
abbrev pub invariant-loop-place : goal.invariant-loop-place
invariant-loop-place l = (k d : ℕ) → k < l.place-index → slice_get l.list (get_or l.places k d) ≡ Some l.ending → ⊥
