use Rattle.std.proofs.Common.{◌≡◌, ℕ, ◌<◌, List, ◌∷◌, get_or, length}
use Rattle.uring_words.specs.Sides.{with_app}
use Rattle.uring_words.proofs.Cells.{loaded_to}
use Rattle.uring_words.proofs.completion.reader.load_cell.Given as goal

abbrev pub invariant-loop-k : goal.invariant-loop-k
invariant-loop-k l = record {
  table : l.seat.table_id ≡ l.fn.seat.table_id;
  known : (c : List ℕ) (cs : List (List ℕ)) → l.fn.seat.me.0.app.known ≡ c ∷ cs → l.seat.me ≡ with_app l.fn.seat.me (loaded_to l.fn.seat.me.0.app c cs l.k);
  size : length l.cell ≡ 10;
  words : (c : List ℕ) (cs : List (List ℕ)) (j : ℕ) → l.fn.seat.me.0.app.known ≡ c ∷ cs → j < l.k → (get_or l.cell j 0 ≡ get_or c j 0) × (length c ≡ 10);
}
