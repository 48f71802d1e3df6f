-- The texts of completions and numbers, each of one alone.
use Rattle.std.proofs.Common.{◌≡◌, ◌≢◌, ℕ, ℤ, ◌<◌, ◌^◌, true, false, List, [], ◌∷◌, ◌++◌, drop, Some, refl, sym, ap, subst, ◌∙◌, append_assoc, arith}
use mathlib.Core.List.{head-eq_of_cons-eq, tail-eq_of_cons-eq}
use Rattle.uring_observed_text.proofs.Common.{Cqe, IsBare, IsCompletion, IsFile, IsNoCompletion, IsNoNumber, IsParted, IsUnparted, SpellsNumber, and_parts, append_cancel_right, codes, decimal, no_bytes, text_of}
use Rattle.std.specs.Char.{is_ascii_digit}
use Rattle.std.specs.Fmt.{signed_decimal}
use Rattle.std.specs.List.{AllByRecursion, list_all}
use Rattle.std.proofs.lemmas.Fmt.{digits_decimal}
use Rattle.uring_core.specs.declared.answer.Answer.TheVariants as answer
use Rattle.uring_core.specs.declared.step.Step.TheVariants as step
use Rattle.uring_text.specs.Completions.{completion_text}
use Rattle.uring_text.specs.Reading.{number_of, file_of}
use Rattle.uring_text.proofs.NumberLaws.{number_again, file_again}
use Rattle.uring_text.proofs.Numbers.{own}

abbrev pub HasNoBlank : List ℕ → Type 0
HasNoBlank xs = AllByRecursion (λ b. b ≢ 32) xs

-- ---- numbers

some_once : {X : Type 0} (a b : X) → Some a ≡ Some b → a ≡ b
some_once a b e = cc

pub number_once : (n m : ℕ) → n < 2 ^ 64 → m < 2 ^ 64 → decimal n ≡ decimal m → n ≡ m
number_once n m p q e =
    some_once n m (sym (number_again (2 ^ 64) n (omega arith) p) ∙ ap (number_of (2 ^ 64)) e ∙ number_again (2 ^ 64) m (omega arith) q)

pub signed_once : (y z : ℤ) → IsFile y → IsFile z → signed_decimal y ≡ signed_decimal z → y ≡ z
signed_once y z p q e = some_once y z (sym (file_again y p) ∙ ap file_of e ∙ file_again z q)

no_digit : (b : ℕ) → is_ascii_digit b ≡ true → b ≢ 32
no_digit b digit is = let no : is_ascii_digit 32 ≡ true = subst (λ (c : ℕ). is_ascii_digit c ≡ true) is digit in (let f : false ≡ true = no in cc)

no_blank : (bs : List ℕ) → list_all is_ascii_digit bs ≡ true → HasNoBlank bs
no_blank [] e = tt
no_blank (b ∷ bs) e =
    let parts = and_parts (is_ascii_digit b) (list_all is_ascii_digit bs) e in
    (no_digit b parts.0, no_blank bs parts.1)

pub decimal_unbroken : (n : ℕ) → n < 2 ^ 64 → HasNoBlank (decimal n)
decimal_unbroken n p = no_blank (decimal n) (digits_decimal own n p)

-- ---- the first blank

pub blank_once : (xs ys us vs : List ℕ) → HasNoBlank xs → HasNoBlank us → xs ++ 32 ∷ ys ≡ us ++ 32 ∷ vs
    → (xs ≡ us) × (ys ≡ vs)
blank_once [] ys [] vs h k e = (refl, tail-eq_of_cons-eq e)
blank_once [] ys (u ∷ us) vs h k e = absurd (k.0 (sym (head-eq_of_cons-eq e)))
blank_once (x ∷ xs) ys [] vs h k e = absurd (h.0 (head-eq_of_cons-eq e))
blank_once (x ∷ xs) ys (u ∷ us) vs h k e =
    grind (arith, (blank_once xs ys us vs h.1 k.1 (tail-eq_of_cons-eq e)), tail-eq_of_cons-eq)

pub none_and_one : (xs ys : List ℕ) → HasNoBlank (xs ++ 32 ∷ ys) → ⊥
none_and_one [] ys h = h.0 refl
none_and_one (x ∷ xs) ys h = none_and_one xs ys h.1

-- ---- completions

abbrev middle : ℕ → ℤ → List ℕ
middle ud res = decimal ud ++ 32 ∷ signed_decimal res

bare_text : (ud : ℕ) (res : ℤ)
    → completion_text (record { user_data = ud; res = res; payload = no_bytes }) ≡ codes "cqe " ++ (middle ud res ++ codes " -")
bare_text ud res = simp append_assoc refl

pub completion_is : (text : List ℕ) (c : Cqe) → IsCompletion text c
    → text ≡ codes "cqe " ++ (middle c.user_data c.res ++ codes " -")
completion_is text c is = grind (arith, bare_text)

-- the parts of its text say what it is
pub completion_once : (c d : Cqe) → text_of (answer.Reaped c) ≡ text_of (answer.Reaped d)
    → IsBare step.Reap (answer.Reaped c) → IsBare step.Reap (answer.Reaped d) → c ≡ d
completion_once c d same p q =
    let left = completion_is (completion_text c) c (record { text_is = refl; bare = p }) in
    let right = completion_is (completion_text d) d (record { text_is = refl; bare = q }) in
    let texts : middle c.user_data c.res ++ codes " -" ≡ middle d.user_data d.res ++ codes " -" = ap (λ (l : List ℕ). drop 4 l) (sym left ∙ same ∙ right) in
    let middles : middle c.user_data c.res ≡ middle d.user_data d.res = append_cancel_right (middle c.user_data c.res) (middle d.user_data d.res) (codes " -") texts in
    let parts = blank_once (decimal c.user_data) (signed_decimal c.res) (decimal d.user_data) (signed_decimal d.res) (decimal_unbroken c.user_data p.0) (decimal_unbroken d.user_data q.0) middles in
    let ud : c.user_data ≡ d.user_data = number_once c.user_data d.user_data p.0 q.0 parts.0 in
    let res : c.res ≡ d.res = signed_once c.res d.res p.1 q.1 parts.1 in
    let payload : c.payload ≡ d.payload = p.2 ∙ sym q.2 in
    λ i. record { user_data = ud i; res = res i; payload = payload i }

-- ---- a completion that is read

-- a text that begins otherwise is that of none
pub no_front : (text : List ℕ) → ((rest : List ℕ) → text ≢ codes "cqe " ++ rest) → IsNoCompletion text
no_front text none = λ c is. none (middle c.user_data c.res ++ codes " -") (completion_is text c is)

-- nor one that ends otherwise
pub no_back : (text rest : List ℕ) → text ≡ codes "cqe " ++ rest → ((mid : List ℕ) → rest ≢ mid ++ codes " -")
    → IsNoCompletion text
no_back text rest front none = λ c is.
    none (middle c.user_data c.res) (ap (λ (l : List ℕ). drop 4 l) (sym front ∙ completion_is text c is))

-- this stands in a text between `cqe ` and ` -`
abbrev pub IsFramed : List ℕ → List ℕ → Type 0
IsFramed text mid = text ≡ codes "cqe " ++ (mid ++ codes " -")

pub framed : (text rest mid : List ℕ) → text ≡ codes "cqe " ++ rest → rest ≡ mid ++ codes " -"
    → IsFramed text mid
framed text rest mid front back = front ∙ ap (λ (l : List ℕ). codes "cqe " ++ l) back

middle_is : (text mid : List ℕ) (c : Cqe) → IsFramed text mid → IsCompletion text c
    → mid ≡ middle c.user_data c.res
middle_is text mid c f is = grind (arith, (completion_is text c is), append_cancel_right)

-- the text of a completion has a blank in it
pub unparted_none : (text mid : List ℕ) → IsFramed text mid → IsUnparted mid → IsNoCompletion text
unparted_none text mid f none = λ c is.
    none_and_one (decimal c.user_data) (signed_decimal c.res) (subst HasNoBlank (middle_is text mid c f is) none)

parts_are : (text mid before after : List ℕ) (c : Cqe) → IsFramed text mid → IsParted mid before after
    → IsCompletion text c → (before ≡ decimal c.user_data) × (after ≡ signed_decimal c.res)
parts_are text mid before after c f p is =
    blank_once before after (decimal c.user_data) (signed_decimal c.res) p.first (decimal_unbroken c.user_data is.bare.0) (sym p.whole ∙ middle_is text mid c f is)

-- with a number before it
pub number_none : (text mid before after : List ℕ) → IsFramed text mid → IsParted mid before after
    → IsNoNumber (2 ^ 64) before → IsNoCompletion text
number_none text mid before after f p none = λ c is.
    none c.user_data ((parts_are text mid before after c f p is).0, is.bare.0)

-- and a result after it
pub result_none : (text mid before after : List ℕ) → IsFramed text mid → IsParted mid before after
    → ((z : ℤ) → IsFile z → signed_decimal z ≡ after → ⊥) → IsNoCompletion text
result_none text mid before after f p none = λ c is.
    none c.res is.bare.1 (sym (parts_are text mid before after c f p is).1)

pub completion_read : (text mid before after : List ℕ) (n : ℕ) (z : ℤ) → IsFramed text mid
    → IsParted mid before after → SpellsNumber (2 ^ 64) before n → (signed_decimal z ≡ after) × IsFile z
    → IsCompletion text (record { user_data = n; res = z; payload = no_bytes })
completion_read text mid before after n z f p number result = grind (arith, bare_text)
