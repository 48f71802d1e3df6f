use Rattle.std.proofs.Common.{◌≡◌, ℕ, ◌+◌, ◌<◌, ◌≤◌, length, slice_index_or}
use Rattle.uring_register.specs.Buffers.Provided.{nothing}
use Rattle.uring_register.proofs.buffers.group_rows.move_down.Given as goal

abbrev pub invariant-loop-i : goal.invariant-loop-i
invariant-loop-i l =
    (length l.rows ≡ length l.initial.rows)
    × ((p : ℕ) → p < l.i → slice_index_or l.rows p nothing ≡ slice_index_or l.initial.rows (l.from + p) nothing)
    × ((p : ℕ) → l.i ≤ p → slice_index_or l.rows p nothing ≡ slice_index_or l.initial.rows p nothing)
