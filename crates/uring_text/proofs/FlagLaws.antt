-- Flags are read of just the tokens that are their letters.
use Rattle.std.proofs.Common.{◌≡◌, ◌≢◌, ℕ, ◌+◌, ◌<◌, false, cond, List, [], ◌∷◌, length, Some, ap, ◌∙◌, arith}
use Rattle.uring_text.proofs.Common.{AllByRecursion, AreFlags, NoneAgain, bytes_eq, bytes_eq-Decides, flag_value, flags_of, letters_of, ne_eqb, same_Some, sum_by}
use Rattle.std.specs.Int.RustNames.{bit_and, bit_or}
use Rattle.std.specs.Int.Bits.{and_zero_l}
use Rattle.std.proofs.lemmas.List.Sums.{sum_by-cons}
use Rattle.std.proofs.lemmas.Nat.{and_or_self, and_or_apart, or_disjoint}
use Rattle.uring_text.proofs.Options.{no_dash}

letters_apart : (b c : ℕ) → 0 < flag_value b → 0 < flag_value c → (c ≡ b → ⊥)
    → bit_and (flag_value b) (flag_value c) ≡ 0
letters_apart b c hb hc ne = grind arith

-- no letter of the token has a bit of these flags
abbrev AreApart : ℕ → List ℕ → Type 0
AreApart flags token = AllByRecursion (λ b. bit_and flags (flag_value b) ≡ 0) token

abbrev AreLetterBytes : List ℕ → Type 0
AreLetterBytes token = AllByRecursion (λ letter. 0 < flag_value letter) token

apart_after : (flags b : ℕ) (token : List ℕ) → 0 < flag_value b → AreLetterBytes token
    → AllByRecursion (λ c. c ≢ b) token → AreApart flags token
    → AreApart (bit_or flags (flag_value b)) token
apart_after flags b [] h l n a = tt
apart_after flags b (c ∷ token) h l n a = grind (arith, and_or_apart, letters_apart, (apart_after flags b token h l.1 n.1 a.1))

-- what is read of letters
letters_read : (flags : ℕ) (token : List ℕ) → AreLetterBytes token → NoneAgain token
    → AreApart flags token → letters_of flags token ≡ Some (flags + sum_by flag_value token)
unfolding letters_of
letters_read flags [] l n a = ap (λ (k : ℕ). Some k) (omega arith)
letters_read flags (b ∷ token) l n a =
    let more = letters_read (bit_or flags (flag_value b)) token l.1 n.1 (apart_after flags b token l.0 l.1 n.0 a.1) in
    let all : bit_or flags (flag_value b) + sum_by flag_value token ≡ flags + sum_by flag_value (b ∷ token) = omega (arith, sum_by-cons flag_value b token, or_disjoint flags (flag_value b) a.0) in
    rw (ne_eqb (flag_value b) 0 (omega arith), a.0) (more ∙ ap (λ (k : ℕ). Some k) all)

pub record IsRead (flags : ℕ) (token : List ℕ) (all : ℕ) : Type 0 where
  pub letters : AreLetterBytes token
  pub once : NoneAgain token
  pub apart : AreApart flags token
  pub sum : all ≡ flags + sum_by flag_value token

-- letters with no bit of these flags and one more have no bit of the flags, and aren't that one
apart_before : (flags b : ℕ) (token : List ℕ) → 0 < flag_value b → AreLetterBytes token
    → AreApart (bit_or flags (flag_value b)) token
    → AreApart flags token × AllByRecursion (λ c. c ≢ b) token
apart_before flags b [] h l a = (tt, tt)
apart_before flags b (c ∷ token) h l a =
    grind (arith, (apart_before flags b token h l.1 a.1), and_or_self, and_or_apart, letters_apart)

read_letters : (flags : ℕ) (token : List ℕ) (all : ℕ) → letters_of flags token ≡ Some all
    → IsRead flags token all
unfolding letters_of
read_letters flags [] all e = grind arith
read_letters flags (b ∷ token) all e =
    let some : 0 < flag_value b = grind arith in
    let free : bit_and flags (flag_value b) ≡ 0 = grind arith in
    let more = read_letters (bit_or flags (flag_value b)) token all (grind arith) in
    let others = apart_before flags b token some more.letters more.apart in
    grind (arith, more, others, (or_disjoint flags (flag_value b) free), (sum_by-cons flag_value b token))

not_empty : (token : List ℕ) → bytes_eq token [] ≡ false → 0 < length token
not_empty [] e = absurd cc
not_empty (b ∷ token) e = omega arith

none_apart : (token : List ℕ) → AreApart 0 token
none_apart [] = tt
none_apart (b ∷ token) = (and_zero_l (flag_value b), none_apart token)

pub flags_found : (token : List ℕ) (flags : ℕ) → flags_of token ≡ Some flags → AreFlags token flags
unfolding flags_of
flags_found token flags e = grind (arith, cond, bytes_eq-Decides, same_Some, read_letters, not_empty)

pub flags_again : (token : List ℕ) (flags : ℕ) → AreFlags token flags → flags_of token ≡ Some flags
unfolding flags_of
flags_again token flags h = grind (arith, bytes_eq-Decides, no_dash, letters_read, none_apart)
