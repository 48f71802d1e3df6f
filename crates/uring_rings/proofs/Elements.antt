-- Elements of lists, by their places: of two lists joined, and of an array read at a word's cell.
-- By induction over the list: nothing here knows of a ring.
-- Stable: rings as shared words are to cite these lemmas too.
use Rattle.std.proofs.Common.{◌≡◌, ℕ, ◌-◌, ◌%◌, ◌<◌, ◌≤◌, List, ◌∷◌, ◌++◌, length, get_or, suc, arith}
use Rattle.uring_rings.proofs.Common.{get_or_read, slice_get}

pub slice_get_append_left : {A : Type 0} (xs ys : List A) (k : ℕ) → k < length xs
    → slice_get (xs ++ ys) k ≡ slice_get xs k
slice_get_append_left (x ∷ xs) ys (suc k) within = slice_get_append_left xs ys k (omega arith)
slice_get_append_left xs ys k within = grind arith

pub slice_get_append_right : {A : Type 0} (xs ys : List A) (k : ℕ) → length xs ≤ k
    → slice_get (xs ++ ys) k ≡ slice_get ys (k - length xs)
slice_get_append_right (x ∷ xs) ys (suc k) past = grind (arith, slice_get_append_right xs ys k)
slice_get_append_right xs ys k past = grind arith

-- what is read from the cell of a word
pub read_cell : (array : List ℕ) (cell word n size x : ℕ) → x ≡ get_or array cell x
    → cell ≡ word % n → cell < n → n ≡ size → length array ≡ size → get_or array (word % size) 0 ≡ x
read_cell array cell word n size x read is_cell below same cells = grind (arith, get_or_read)
