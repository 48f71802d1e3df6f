-- Words that are numbers.
use Rattle.std.proofs.Common.{◌≡◌, ℕ, ◌^◌, ◌<◌, ◌≤◌, true, List, length, get_or, Some, None, Result, arith, rules}
use Rattle.uring_text.proofs.Common.{IsUtf8, file_of, is_numeral, list_all, lt-ltb, ne_eqb, nil_from_length, number_of, option_map, pos}
use Rattle.std.specs.Char.{is_ascii_digit}
use Rattle.std.specs.Str.Parse.{digits_value, ParsesUnsigned}
use Rattle.std.specs.Result.{OkIff, result_ok}
use Rattle.std.proofs.lemmas.Fmt.{IsAscii-from_digits}
use Rattle.std.proofs.lemmas.Str.{IsUtf8-from_ascii}
use Rattle.std.proofs.lemmas.Str.Parse.{IsNumeralModel, numerals_by_value, parse_digits}

pub own : IsNumeralModel (λ ds. list_all is_ascii_digit ds ≡ true) (digits_value 10)
own = numerals_by_value _ (search rules)

-- a numeral is digits, of which the first is no zero unless it is the only one
pub numeral_is : (w : List ℕ) → is_numeral w ≡ true
    → (list_all is_ascii_digit w ≡ true) × (0 < length w) × (get_or w 0 0 ≡ 48 → length w ≡ 1)
unfolding is_numeral
numeral_is w e = grind (arith, nil_from_length)

pub numeral_utf8 : (w : List ℕ) → is_numeral w ≡ true → IsUtf8 w
numeral_utf8 w e = IsUtf8-from_ascii w (IsAscii-from_digits w (own.to w (numeral_is w e).0))

-- what parsing a numeral gives
parsed_as : {E : Type 0} (w : List ℕ) (r : Result ℕ E) → is_numeral w ≡ true
    → OkIff r ((0 < length w) × (digits_value 10 w < 2 ^ 64)) (digits_value 10 w)
    → result_ok r ≡ number_of (2 ^ 64) w
unfolding number_of
parsed_as w r e h = grind (arith, lt-ltb, (numeral_is w e).1)

pub numeral_parsed : {E : Type 0} (w : List ℕ) (r : Result ℕ E) → is_numeral w ≡ true
    → ParsesUnsigned 64 10 w r → result_ok r ≡ number_of (2 ^ 64) w
numeral_parsed w r e h = parsed_as w r e (parse_digits own 64 w r h (numeral_is w e).0)

-- what a token's number is
pub number_parts : (limit : ℕ) (w : List ℕ) (n : ℕ) → number_of limit w ≡ Some n
    → (is_numeral w ≡ true) × (digits_value 10 w ≡ n) × (n < limit)
unfolding number_of
number_parts limit w n e = grind arith

-- a number below a smaller limit
pub number_below_is : (limit : ℕ) (w : List ℕ) (n : ℕ) → number_of (2 ^ 64) w ≡ Some n → n < limit
    → number_of limit w ≡ Some n
unfolding number_of
number_below_is limit w n e lt = grind arith

pub number_above : (limit : ℕ) (w : List ℕ) (n : ℕ) → number_of (2 ^ 64) w ≡ Some n → limit ≤ n
    → number_of limit w ≡ None
unfolding number_of
number_above limit w n e le = grind arith

pub no_number : (limit : ℕ) (w : List ℕ) → number_of (2 ^ 64) w ≡ None → limit ≤ 2 ^ 64
    → number_of limit w ≡ None
unfolding number_of
no_number limit w e le = grind arith

-- a token that doesn't begin with `-`
pub file_other : (w : List ℕ) → (get_or w 0 0 ≡ 45 → ⊥)
    → option_map (λ n. pos n) (number_of (2 ^ 31) w) ≡ file_of w
unfolding number_of is_numeral file_of
file_other w h = grind (arith, ne_eqb)
