-- A number is read of just the token that is its decimal form.
use Rattle.std.proofs.Common.{◌≡◌, ℕ, suc, ◌^◌, ◌<◌, ◌≤◌, true, List, [], ◌∷◌, length, get_or, Option, Some, sym, ap, ◌∙◌, arith}
use Rattle.uring_text.proofs.Common.{IsFile, MatchOption, eqb-true, file_of, is_numeral, negative_of, negsuc, number_of, option_map, pos, ℤ}
use Rattle.std.specs.Fmt.{decimal, signed_decimal}
use Rattle.std.proofs.lemmas.Fmt.{decimal-digits_value, digits_decimal, first_decimal, decimal_nonempty, decimal_digit, decimal_is_IsNumeral}
use Rattle.std.proofs.lemmas.Str.Parse.{digit_at}
use Rattle.uring_text.proofs.Numbers.{own, numeral_is, number_parts, file_other}

-- the decimal form of a number has no leading zero
leading : (n : ℕ) → n < 2 ^ 64 → get_or (decimal n) 0 0 ≡ 48 → length (decimal n) ≡ 1
leading n lt e = grind (arith, first_decimal, decimal_digit)

numeral_decimal : (n : ℕ) → n < 2 ^ 64 → is_numeral (decimal n) ≡ true
unfolding is_numeral
numeral_decimal n lt = grind (arith, (digits_decimal own n lt), (decimal_nonempty n lt), (leading n lt))

pub number_found : (limit : ℕ) (w : List ℕ) (n : ℕ) → limit ≤ 2 ^ 64 → number_of limit w ≡ Some n
    → (w ≡ decimal n) × (n < limit)
number_found limit w n le e =
    let p = number_parts limit w n e in
    let is = numeral_is w p.0 in
    (rw (← p.1) (sym (decimal-digits_value own w is.0 is.1 is.2 (omega arith))), p.2)

pub number_again : (limit n : ℕ) → limit ≤ 2 ^ 64 → n < limit → number_of limit (decimal n) ≡ Some n
unfolding number_of
number_again limit n le lt =
    let small : n < 2 ^ 64 = omega arith in
    grind (arith, (numeral_decimal n small), (decimal_is_IsNumeral n small).1)

-- ---- signed numbers

file_digits : (b : ℕ) (bs : List ℕ) (n : ℕ) → file_of (b ∷ bs) ≡ Some (pos n)
    → number_of (2 ^ 31) (b ∷ bs) ≡ Some n
unfolding file_of
file_digits b bs n e = grind (arith, negative_of)

minus_digits : (b : ℕ) (bs : List ℕ) (k : ℕ) → file_of (b ∷ bs) ≡ Some (negsuc k)
    → (b ≡ 45) × (number_of (2 ^ 64) bs ≡ Some (suc k)) × (k < 2 ^ 31)
unfolding file_of
minus_digits b bs k e = grind (arith, eqb-true, negative_of)

pub file_found : (w : List ℕ) (fd : ℤ) → file_of w ≡ Some fd → (w ≡ signed_decimal fd) × IsFile fd
unfolding file_of
file_found [] fd e = absurd cc
file_found (b ∷ bs) (pos n) e = number_found (2 ^ 31) (b ∷ bs) n (omega arith) (file_digits b bs n e)
file_found (b ∷ bs) (negsuc k) e =
    let is = minus_digits b bs k e in
    (rw (is.0, (number_found (2 ^ 64) bs (suc k) (omega arith) is.1).0), is.2)

-- the decimal form of a number doesn't begin with a minus
no_minus : (n : ℕ) → n < 2 ^ 64 → get_or (decimal n) 0 0 ≡ 45 → ⊥
no_minus n lt e =
    omega (arith, digit_at (decimal n) 0 (own.to (decimal n) (digits_decimal own n lt)) (decimal_nonempty n lt))

pub file_again : (fd : ℤ) → IsFile fd → file_of (signed_decimal fd) ≡ Some fd
unfolding file_of
file_again (pos n) lt = sym (file_other (decimal n) (no_minus n (omega arith))) ∙ ap (option_map (λ n. pos n)) (number_again (2 ^ 31) n (omega arith) lt)
file_again (negsuc k) lt = grind (arith, number_again)

-- what a token spells that is read as a signed number, or as none
pub signed_tells : (w : List ℕ) (r : Option ℤ) → r ≡ file_of w
    → MatchOption r ((fd : ℤ) → IsFile fd → signed_decimal fd ≡ w → ⊥) (λ fd. (signed_decimal fd ≡ w) × IsFile fd)
signed_tells w r is = grind (arith, file_again, file_found)
