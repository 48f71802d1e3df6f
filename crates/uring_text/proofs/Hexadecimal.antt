-- Bytes as hexadecimal digits, byte by byte.
use Rattle.std.proofs.Common.{◌≡◌, ℕ, ◌+◌, ◌<◌, ◌≤◌, List, [], ◌∷◌, ◌++◌, length, drop, append_assoc, append-nil}
use Rattle.uring_text.proofs.Common.{at_drop_all, at_drop_more, encode_lower, encode_with, lower_digits, slice_index, ◌%◌, ◌/◌}

-- a byte's two digits, and those of the bytes after it
pub hex_more : (all mid new bytes : List ℕ) (i b : ℕ) → i < length bytes → b ≡ slice_index bytes i
    → new ≡ mid ++ slice_index lower_digits (b / 16) ∷ [] ++ slice_index lower_digits (b % 16) ∷ []
    → mid ++ encode_lower (drop i bytes) ≡ all → new ++ encode_lower (drop (i + 1) bytes) ≡ all
unfolding encode_with
hex_more all mid new bytes i b below is made before =
    simp (made, is, append_assoc) (rw (at_drop_more encode_lower bytes i 0 below) at before)

-- no byte is left
pub hex_all : (all mid bytes : List ℕ) (i : ℕ) → length bytes ≤ i
    → mid ++ encode_lower (drop i bytes) ≡ all → mid ≡ all
unfolding encode_with
hex_all all mid bytes i past before = simp (at_drop_all encode_lower bytes i past, append-nil) at before
