-- What a crash has written is the image that the choice leaves.
use Rattle.std.proofs.Common.{◌≡◌, ◌<◌, ◌≤◌, ◌-◌, ◌/◌, ℕ, zero, suc, List, [], ◌∷◌, ◌++◌, length, get_or, replicate, refl, arith}
use Rattle.uring_volume.proofs.Common.{History, IsLeftBy, IsShown, Write, byte_over, chosen, ended, filter, is_on, issued, length-append, length-replicate, length_over, part}
use Rattle.uring_volume.proofs.ReadBack.{len_grows}

zeros : (n k : ℕ) → get_or {A = ℕ} (replicate n 0) k 0 ≡ 0
zeros zero k = refl
zeros (suc n) zero = refl
zeros (suc n) (suc k) = zeros n k

-- zeros after a file change no byte of it
pub padded : (xs : List ℕ) (n k : ℕ) → get_or (xs ++ replicate n 0) k 0 ≡ get_or xs k 0
padded [] n k = zeros n k
padded (x ∷ xs) n zero = refl
padded (x ∷ xs) n (suc k) = padded xs n k

pub left_by : (u : ℕ) (first : List ℕ) (h : History) (choice whole rest grown now : List ℕ)
    (len : ℕ)
    → whole ≡ part choice 0
    → ((i : ℕ) → part rest i ≡ part choice (suc i))
    → len ≡ length_over (length first) (chosen h (issued h) whole)
    → grown ≡ first ++ replicate (len - length first) 0
    → length now ≡ length grown
    → ((k : ℕ) → k < length grown → get_or now k 0
    ≡ byte_over (get_or grown k 0) (chosen h (filter (is_on u (k / u)) (issued h)) (part rest (k / u))) k)
    → IsLeftBy u first h choice now
left_by u first h choice whole rest grown now len begins goes_on long padding same left =
    grind (arith, len_grows, length-append, length-replicate, get_or, padded)

pub shown_by : (first : List ℕ) (h : History) (order : List Write) (grown now : List ℕ) (len : ℕ)
    → order ≡ ended h
    → len ≡ length_over (length first) order
    → grown ≡ first ++ replicate (len - length first) 0
    → length now ≡ length grown
    → ((k : ℕ) → 0 ≤ k → k < len → get_or now k 0 ≡ byte_over (get_or grown k 0) order k)
    → IsShown first h now
shown_by first h order grown now len all long padding same left =
    grind (arith, len_grows, length-append, length-replicate, get_or, padded)
