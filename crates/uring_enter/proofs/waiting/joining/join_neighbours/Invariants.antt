use Rattle.std.proofs.Common.{◌≡◌, ◌<◌, ◌≤◌, length, take, slice_index_or, ℕ, Bool}
use Rattle.std.specs.List.{list_any}
use Rattle.uring_enter.specs.declared.waiting.joining.PollRow.{PollRow}
use Rattle.uring_enter.specs.Waiting.Joining as spec
use Rattle.uring_enter.proofs.waiting.joining.join_neighbours.Given as goal

abbrev pub invariant-loop-i : goal.invariant-loop-i
invariant-loop-i l = record {
  joins : (p : PollRow → Bool) → spec.Joins p → list_any p (take l.kept l.rows) ≡ list_any p (take l.i l.initial.rows);
  once : spec.Rises l.initial.rows → spec.EachOnce (take l.kept l.rows);
  last : spec.Rises l.initial.rows → (k : ℕ) (d : PollRow) → l.i ≤ k → k < length l.initial.rows → spec.AreUpTo (slice_index_or l.initial.rows k d).fd (take l.kept l.rows);
  rest : (k : ℕ) (d : PollRow) → l.i ≤ k → slice_index_or l.rows k d ≡ slice_index_or l.initial.rows k d;
  len : length l.rows ≡ length l.initial.rows;
  within : l.kept ≤ l.i;
}
