-- The letters of flags, as they are read.
use Rattle.std.proofs.Common.{◌≡◌, ℕ, zero, suc, ◌<◌, Bool, true, false, eqb, ◌&&◌, ◌==◌, if◌then◌else◌, List, [], ◌∷◌, ◌++◌, length, length-append, refl, ap, ◌∙◌, inl, inr, append-nil, arith}
use Rattle.uring_ffi_values.proofs.Common.{and_parts, bit_and, cases_Bool, codes, eqb-true, named_if, sum_by}
use Rattle.std.specs.List.{AllByRecursion, filter}
use Rattle.uring_text.specs.Tokens.{flag_value, NoneAgain, AreFlags}
use Rattle.uring_ffi_values.specs.Traces.FlagLetters.{has_flag, letters_of, flags_text}

abbrev letter_part : (flags letter : ℕ) → List ℕ
letter_part flags letter = named_if (has_flag flags letter) (letter ∷ [])

pub parts_of : (flags : ℕ)
    → letter_part flags 68 ++ letter_part flags 76 ++ letter_part flags 72 ++ letter_part flags 65 ++ letter_part flags 83 ≡ letters_of flags
parts_of flags = grind arith

-- letters, or `-` where there are none
pub dashed : (ls old mid new dash : List ℕ) → mid ≡ old ++ ls → length mid ≡ length old → dash ≡ codes "-" → new ≡ mid ++ dash
    → new ≡ old ++ (if length ls == 0 then codes "-" else ls)
dashed [] old mid new dash is same text pushed = pushed ∙ ap (λ (t : List ℕ). t ++ dash) (is ∙ append-nil old) ∙ ap (λ (t : List ℕ). old ++ t) text
dashed (x ∷ ls) old mid new dash is same text pushed = absurd (omega (arith, ap (λ (t : List ℕ). length t) is, length-append old (x ∷ ls), same))

pub lettered : (ls old mid new dash : List ℕ) → mid ≡ old ++ ls → (length mid ≡ length old → ⊥) → dash ≡ [] → new ≡ mid ++ dash
    → new ≡ old ++ (if length ls == 0 then codes "-" else ls)
lettered [] old mid new dash is other text pushed = absurd (other (ap (λ (t : List ℕ). length t) (is ∙ append-nil old)))
lettered (x ∷ ls) old mid new dash is other text pushed = grind (arith, append-nil)

-- ---- what is read

-- what holds of each holds of those that pass
kept : (P : ℕ → Type 0) (p : ℕ → Bool) (xs : List ℕ) → AllByRecursion P xs → AllByRecursion P (filter p xs)
kept P p [] h = tt
kept P p (x ∷ xs) h = grind (arith, (kept P p xs h.1))

kept_once : (p : ℕ → Bool) (xs : List ℕ) → NoneAgain xs → NoneAgain (filter p xs)
kept_once p [] h = tt
kept_once p (x ∷ xs) h = grind (arith, kept, (kept_once p xs h.1))

-- all numbers below one pass
all_below : (ℕ → Bool) → ℕ → Bool
all_below p zero = true
all_below p (suc n) = p n && all_below p n

passes_below : (p : ℕ → Bool) (n k : ℕ) → all_below p n ≡ true → k < n → p k ≡ true
unfolding all_below
passes_below p zero k all lt = absurd (omega arith)
passes_below p (suc n) k all lt = grind (arith, (passes_below p n k), (and_parts (p n) (all_below p n) all))

abbrev is_sum : ℕ → Bool
is_sum flags = eqb (bit_and flags 94) (sum_by flag_value (letters_of flags))

sum_is : (flags : ℕ) → flags < 256 → bit_and flags 94 ≡ sum_by flag_value (letters_of flags)
unfolding all_below
sum_is flags lt = eqb-true _ _ (passes_below is_sum 256 flags refl lt)

are_letters : AllByRecursion (λ letter. 0 < flag_value letter) (codes "DLHAS")
are_letters = (omega arith, (omega arith, (omega arith, (omega arith, (omega arith, tt)))))

stand_once : NoneAgain (codes "DLHAS")
stand_once = grind arith

pub spelled : (flags : ℕ) → flags < 256 → AreFlags (flags_text flags) (bit_and flags 94)
spelled flags lt =
    let p : ℕ → Bool = λ letter. has_flag flags letter in
    let sum = sum_is flags lt in
    elim (cases_Bool (eqb (length (letters_of flags)) 0)) [
      | inl none ↦ rw none (inl (refl, sum ∙ ap (λ (l : List ℕ). sum_by flag_value l) (empty (letters_of flags) (eqb-true _ _ none))))
      | inr some ↦ rw some (inr (record {
        some = more (letters_of flags) some;
        letters = kept (λ letter. 0 < flag_value letter) p (codes "DLHAS") are_letters;
        once = kept_once p (codes "DLHAS") stand_once;
        all = sum;
      }))
    ]
  where
    empty : (l : List ℕ) → length l ≡ 0 → l ≡ []
    empty [] e = refl
    empty (x ∷ l) e = absurd (omega arith)

    more : (l : List ℕ) → eqb (length l) 0 ≡ false → 0 < length l
    more l e = grind arith
