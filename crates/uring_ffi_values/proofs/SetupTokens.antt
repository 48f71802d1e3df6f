-- The tokens of a set-up's line.
use Rattle.std.proofs.Common.{◌≡◌, ℕ, ◌<◌, ◌^◌, Bool, true, false, eqb, List, [], ◌∷◌, ◌++◌, refl, ap, ◌∙◌, append-nil, append_assoc, arith}
use Rattle.uring_ffi_values.proofs.Common.{Setup, and_parts, codes, named_if, setup_line, setup_tokens, token_if}
use Rattle.std.specs.Char.{is_ascii_digit}
use Rattle.std.specs.Fmt.{decimal}
use Rattle.std.specs.List.{All, list_all}
use Rattle.std.proofs.lemmas.Fmt.{digits_decimal}
use Rattle.std.proofs.lemmas.List.Elements.{All-cons}
use Rattle.std.proofs.lemmas.List.Splits.{slice_split_at, slice_split_none}
use Rattle.uring_text.specs.Tokens.{tokens_of}
use Rattle.uring_text.proofs.Numbers.{own}

abbrev HasNoBlank : List ℕ → Type 0
HasNoBlank bytes = All (λ b. eqb b 32 ≡ false) bytes

no_digit : (b : ℕ) → is_ascii_digit b ≡ true → eqb b 32 ≡ false
no_digit b digit = grind arith

no_blank : (bs : List ℕ) → list_all is_ascii_digit bs ≡ true → HasNoBlank bs
no_blank [] e = λ k d lt. absurd (omega arith)
no_blank (b ∷ bs) e =
    let parts = and_parts (is_ascii_digit b) (list_all is_ascii_digit bs) e in
    All-cons (λ c. eqb c 32 ≡ false) b bs (no_digit b parts.0) (no_blank bs parts.1)

unbroken : (n : ℕ) → n < 2 ^ 64 → HasNoBlank (decimal n)
unbroken n small = no_blank (decimal n) (digits_decimal own n small)

-- a number, and what stands after its blank
number_first : (n : ℕ) (rest : List ℕ) → n < 2 ^ 64
    → tokens_of (decimal n ++ 32 ∷ rest) ≡ decimal n ∷ tokens_of rest
number_first n rest small = slice_split_at (λ b. eqb b 32) (decimal n) 32 rest (unbroken n small) refl

number_last : (n : ℕ) → n < 2 ^ 64 → tokens_of (decimal n ++ []) ≡ decimal n ∷ []
number_last n small = ap tokens_of (append-nil (decimal n)) ∙ slice_split_none (λ b. eqb b 32) (decimal n) (unbroken n small)

abbrev end_of : (stops linux : Bool) → List ℕ
end_of stops linux = named_if stops (codes " --stop") ++ named_if linux (codes " --linux")

-- the last number, and what is asked for besides
end_tokens : (n : ℕ) (stops linux : Bool) → n < 2 ^ 64
    → tokens_of (decimal n ++ end_of stops linux)
    ≡ decimal n ∷ (token_if stops (codes "--stop") ++ token_if linux (codes "--linux"))
end_tokens n stops linux small = grind (arith, number_first, number_last)

regrouped : (a b c d e f g h i j : List ℕ)
    → a ++ b ++ c ++ d ++ e ++ f ++ g ++ h ++ i ++ j
    ≡ a ++ (b ++ (c ++ (d ++ (e ++ (f ++ (g ++ (h ++ (i ++ j))))))))
regrouped a b c d e f g h i j = simp append_assoc (refl)

abbrev after_files : Setup → List ℕ
after_files s = codes "--start " ++ (decimal s.start ++ end_of s.stops s.linux)

abbrev after_cq : Setup → List ℕ
after_cq s = codes "--files " ++ (decimal s.files ++ 32 ∷ after_files s)

abbrev after_sq : Setup → List ℕ
after_sq s = codes "--cq " ++ (decimal s.cq ++ 32 ∷ after_cq s)

pub tokens_in : (s : Setup) → s.sq < 2 ^ 64 → s.cq < 2 ^ 64 → s.files < 2 ^ 64 → s.start < 2 ^ 64
    → tokens_of (setup_line s) ≡ setup_tokens s
tokens_in s sq cq files start =
    let third = number_first s.files (after_files s) files ∙ ap (λ (t : List (List ℕ)). decimal s.files ∷ codes "--start" ∷ t) (end_tokens s.start s.stops s.linux start) in
    let second = number_first s.cq (after_cq s) cq ∙ ap (λ (t : List (List ℕ)). decimal s.cq ∷ codes "--files" ∷ t) third in
    let first = number_first s.sq (after_sq s) sq ∙ ap (λ (t : List (List ℕ)). decimal s.sq ∷ codes "--cq" ∷ t) second in
    ap tokens_of (regrouped (codes "setup --sq ") (decimal s.sq) (codes " --cq ") (decimal s.cq) (codes " --files ") (decimal s.files) (codes " --start ") (decimal s.start) (named_if s.stops (codes " --stop")) (named_if s.linux (codes " --linux")))
    ∙ ap (λ (t : List (List ℕ)). codes "setup" ∷ codes "--sq" ∷ t) first
