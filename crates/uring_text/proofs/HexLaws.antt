-- Bytes are read of just the tokens that are their lower case digits.
use Rattle.std.proofs.Common.{◌≡◌, ℕ, zero, suc, ◌+◌, ◌*◌, ◌/◌, ◌%◌, ◌<◌, false, cond, List, [], ◌∷◌, length, Some, Result, Ok, refl, arith}
use Rattle.uring_text.proofs.Common.{AllByRecursion, AreBytes, IsBytes, and_from, both_ways, bytes_eq-Decides, data_of, decode_pairs, encode_lower, encode_with, hex_of, hex_or_dash, is_capital, le-leb, leb-true, list_any, lower_digits, or_parts, pair_value, slice_index, value_at}
use Rattle.hex.specs.Hex.{◌>>=◌}
use Rattle.hex.specs.declared.error.FromHexError.{FromHexError}
use Rattle.hex.proofs.HexLemmas.{decode_sized-encode_lower, length-encode_with, decode_pairs-ok}
use Rattle.uring_text.proofs.Options.{no_dash}
use Rattle.std.proofs.lemmas.List.Elements.{All-from_recursion}

no_capital : (v : ℕ) → v < 16 → is_capital (slice_index lower_digits v) ≡ false
no_capital v lt = All-from_recursion (λ d. is_capital d ≡ false) lower_digits (assumption) v 0 lt

bytes_from : (bytes : List ℕ) → AllByRecursion (λ b. b < 256) bytes → IsBytes bytes
bytes_from [] h i = omega arith
bytes_from (b ∷ bytes) h zero = h.0
bytes_from (b ∷ bytes) h (suc i) = bytes_from bytes h.1 i

bytes_to : (bytes : List ℕ) → IsBytes bytes → AllByRecursion (λ b. b < 256) bytes
bytes_to [] h = tt
bytes_to (b ∷ bytes) h = (h 0, bytes_to bytes (λ i. h (suc i)))

-- a digit that is no capital letter
lower_digit : (c i v : ℕ) → value_at c i ≡ Ok v → is_capital c ≡ false
    → (slice_index lower_digits v ≡ c) × (v < 16)
lower_digit c i v e small = grind (arith, cond, leb-true, and_from, le-leb, both_ways)

bind_ok : {A B : Type 0} (r : Result A FromHexError) (f : A → Result B FromHexError) (y : B)
    → (r >>= f) ≡ Ok y → (x : A) × (r ≡ Ok x) × (f x ≡ Ok y)
bind_ok r f y h = grind arith

-- what decodes, and has no capital letter
pairs_lower : (i : ℕ) (s bytes : List ℕ) → decode_pairs i s ≡ Ok bytes
    → list_any is_capital s ≡ false → s ≡ encode_lower bytes
unfolding decode_pairs encode_with
pairs_lower i [] bytes e n = cc
pairs_lower i (a ∷ []) bytes e n = absurd cc
pairs_lower i (a ∷ b ∷ rest) bytes e n =
    let p0 = bind_ok (pair_value a b i) (λ byte. decode_pairs (i + 2) rest >>= λ more. Ok (byte ∷ more)) bytes e in
    let p1 = bind_ok (value_at a i) (λ h. value_at b (i + 1) >>= λ l. Ok (h * 16 + l)) p0.0 p0.1 in
    let p2 = bind_ok (value_at b (i + 1)) (λ l. Ok (p1.0 * 16 + l)) p0.0 p1.2 in
    let p3 = bind_ok (decode_pairs (i + 2) rest) (λ more. Ok (p0.0 ∷ more)) bytes p0.2 in
    let small = or_parts (is_capital a) (list_any is_capital (b ∷ rest)) n in
    let smaller = or_parts (is_capital b) (list_any is_capital rest) small.1 in
    let high = lower_digit a i p1.0 p1.1 small.0 in
    let low = lower_digit b (i + 1) p2.0 p2.1 smaller.0 in
    let byte : p1.0 * 16 + p2.0 ≡ p0.0 = cc (p2.2) in
    let parts : (p0.0 / 16 ≡ p1.0) × (p0.0 % 16 ≡ p2.0) = omega (arith, high.1, low.1) in
    let all : p0.0 ∷ p3.0 ≡ bytes = cc (p3.2) in
    rw (← all, parts.0, parts.1, high.0, low.0, ← pairs_lower (i + 2) rest p3.0 p3.1 smaller.1)

pub hex_found : (count : ℕ) (token bytes : List ℕ) → hex_of count token ≡ Some bytes
    → (token ≡ encode_lower bytes) × AreBytes bytes count count
unfolding hex_of
hex_found count token bytes e =
    let low : list_any is_capital token ≡ false = grind arith in
    let pairs : decode_pairs 0 token ≡ Ok bytes = grind arith in
    let size : length token ≡ 2 * count = grind arith in
    let all = decode_pairs-ok 0 token bytes pairs in
    grind (arith, all.1, (pairs_lower 0 token bytes pairs low), (bytes_to bytes all.2))

encoded_small : (bytes : List ℕ) → AllByRecursion (λ b. b < 256) bytes
    → list_any is_capital (encode_lower bytes) ≡ false
unfolding encode_with
encoded_small [] h = refl
encoded_small (b ∷ bytes) h = grind (arith, no_capital, (encoded_small bytes h.1))

pub hex_again : (count : ℕ) (bytes : List ℕ) → AreBytes bytes count count
    → hex_of count (encode_lower bytes) ≡ Some bytes
unfolding hex_of
hex_again count bytes h =
    grind (arith, encoded_small, decode_sized-encode_lower, bytes_from)

pub data_found : (token bytes : List ℕ) → data_of token ≡ Some bytes
    → (token ≡ hex_or_dash bytes) × AreBytes bytes 0 64
unfolding data_of
data_found token [] e = grind (arith, bytes_eq-Decides, (hex_found (length token / 2) token []))
data_found token (b ∷ bytes) e = grind (arith, bytes_eq-Decides, (hex_found (length token / 2) token (b ∷ bytes)))

pub data_again : (bytes : List ℕ) → AreBytes bytes 0 64 → data_of (hex_or_dash bytes) ≡ Some bytes
unfolding data_of
data_again bytes h = grind (arith, length-encode_with, hex_again, no_dash)
