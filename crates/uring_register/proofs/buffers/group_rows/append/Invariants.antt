use Rattle.std.proofs.Common.{◌≡◌, ℕ, ◌+◌, ◌<◌, length, slice_index_or}
use Rattle.uring_register.specs.Buffers.Provided.{made, nothing}
use Rattle.uring_register.proofs.buffers.group_rows.append.Given as goal

abbrev pub invariant-loop-i : goal.invariant-loop-i
invariant-loop-i l =
    (length l.rows ≡ length l.initial.rows)
    × ((p : ℕ) → p < l.at → slice_index_or l.rows p nothing ≡ slice_index_or l.initial.rows p nothing)
    × ((p : ℕ) → p < l.i → slice_index_or l.rows (l.at + p) nothing ≡ made l.asked p)
