use Rattle.std.proofs.Common.{ℕ, not, ◌==◌, List, length, ◌≤◌}
use Rattle.std.proofs.lemmas.List.Sums.{prefix_len-le-length}
use Rattle.uring_register.specs.KernelLists.Texts as spec
use Rattle.uring_register.proofs.kernel_lists.texts.after_word.Goals as goal

is_within : (byte : ℕ) (line : List ℕ) → spec.position_of byte line ≤ length line
is_within byte line = prefix_len-le-length (λ (other : ℕ). not (other == byte)) line

are_within : (text : List ℕ) → spec.blanks_of text ≤ length text
are_within text = prefix_len-le-length (λ (byte : ℕ). not (not (byte == 32))) text

pub slice_bounds-rest-start : goal.slice_bounds-rest-start
slice_bounds-rest-start c = rw c.position_of.ensures (is_within 32 _)

pub slice_bounds-rest-count : goal.slice_bounds-rest-count
slice_bounds-rest-count c = rw c.position_of.ensures (is_within 32 _)

pub slice_bounds-result-start : goal.slice_bounds-result-start
slice_bounds-result-start c = rw c.blanks_of.ensures (are_within _)

pub slice_bounds-result-count : goal.slice_bounds-result-count
slice_bounds-result-count c = rw c.blanks_of.ensures (are_within _)
