use Rattle.std.proofs.Common.{◌≡◌, ℕ, ◌<◌, List, ◌∷◌, get_or, length}
use Rattle.uring_words.specs.Sides.{with_kernel}
use Rattle.uring_words.specs.declared.submission.view.Position.{Position}
use Rattle.uring_words.proofs.Positions.{loaded_to}
use Rattle.uring_words.proofs.submission.reader.load_entry.Given as goal

abbrev pub invariant-loop-k : goal.invariant-loop-k
invariant-loop-k l = record {
  table : l.seat.table_id ≡ l.fn.seat.table_id;
  known : (p : Position) (ps : List Position) → l.fn.seat.me.0.kernel.known ≡ p ∷ ps → l.seat.me ≡ with_kernel l.fn.seat.me (loaded_to l.fn.seat.me.0.kernel p ps l.k);
  size : length l.entry ≡ 16;
  words : (p : Position) (ps : List Position) (j : ℕ) → l.fn.seat.me.0.kernel.known ≡ p ∷ ps → j < l.k → get_or l.entry j 0 ≡ get_or p.entry j 0;
}
