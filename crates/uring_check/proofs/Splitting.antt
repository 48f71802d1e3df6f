-- How a line is split at its first `=`.
use Rattle.std.proofs.Common.{◌≡◌, ◌≢◌, ℕ, ◌+◌, ◌<◌, ◌≤◌, List, [], ◌∷◌, ◌++◌, length, take, drop, get_or, refl, sym, ap, subst, ◌∙◌, append_assoc, inl, inr, arith, length-append}
use mathlib.Core.List.{tail-eq_of_cons-eq}
use Rattle.std.specs.List.{AllByRecursion}
use Rattle.uring_check.proofs.Common.{IsNoRecord, IsRecord, IsSplit, IsUnsplit, Step, append_cancel_right, cases_lt, drop_more, take-append-drop, take_all}
use Rattle.uring_trace.specs.Spelling.{IsStep, IsBad}
use Rattle.uring_trace.proofs.Spellings.{step_once}

abbrev pub HasNone : List ℕ → Type 0
HasNone xs = AllByRecursion (λ b. b ≢ 61) xs

none_before : (xs ys : List ℕ) → HasNone (xs ++ ys) → HasNone xs
none_before [] ys h = tt
none_before (x ∷ xs) ys h = (h.0, none_before xs ys h.1)

none_and_one : (xs ys : List ℕ) → HasNone (xs ++ 61 ∷ ys) → ⊥
none_and_one [] ys h = h.0 refl
none_and_one (x ∷ xs) ys h = none_and_one xs ys h.1

none_more : (xs : List ℕ) → HasNone xs → HasNone (xs ++ 32 ∷ [])
none_more [] h = (omega arith, tt)
none_more (x ∷ xs) h = (h.0, none_more xs h.1)

-- the first `=` stands at one place
first_once : (xs ys us vs : List ℕ) → HasNone xs → HasNone us → xs ++ 61 ∷ ys ≡ us ++ 61 ∷ vs
    → (xs ≡ us) × (ys ≡ vs)
first_once [] ys [] vs h k e = (refl, tail-eq_of_cons-eq e)
first_once (x ∷ xs) ys (u ∷ us) vs h k e =
    grind (arith, (first_once xs ys us vs h.1 k.1 (tail-eq_of_cons-eq e)), tail-eq_of_cons-eq)
first_once _ ys _ vs h k e = absurd (grind (arith, h, k, e))

-- a split line, at its `=`
at_sign : (line before text : List ℕ) → IsSplit line before text
    → line ≡ (before ++ 32 ∷ []) ++ 61 ∷ 32 ∷ text
at_sign line before text h = h.whole ∙ simp append_assoc refl

-- what a cut gave: the bytes before the first `=`, and the rest
pub record IsCut (line front back : List ℕ) (n : ℕ) : Type 0 where
  pub front_is : front ≡ take n line
  pub back_is : back ≡ drop n line
  pub within : n ≤ length line
  pub none : HasNone (take n line)
  pub here : n < length line → get_or line n 0 ≡ 61

-- the cut of a split line
pub cut_split : (line front back before text : List ℕ) (n : ℕ) → IsCut line front back n
    → IsSplit line before text → (front ≡ before ++ 32 ∷ []) × (back ≡ 61 ∷ 32 ∷ text)
cut_split line front back before text n c h = elim (cases_lt n (length line)) [
  | inl lt ↦
      let next : drop n line ≡ 61 ∷ drop (n + 1) line = drop_more line n 0 lt ∙ ap (λ (b : ℕ). b ∷ drop (n + 1) line) (c.here lt) in
      let same = first_once (take n line) (drop (n + 1) line) (before ++ 32 ∷ []) (32 ∷ text) c.none (none_more before h.first) (rw (← next, take-append-drop n line) (at_sign line before text h)) in
      (c.front_is ∙ same.0, c.back_is ∙ next ∙ ap (λ (l : List ℕ). 61 ∷ l) same.1)
  | inr ge ↦
      absurd (none_and_one (before ++ 32 ∷ []) (32 ∷ text) (rw (take_all n line ge, at_sign line before text h) at c.none))
]

-- what is left of a cut, each without its space, is the split
pub split_made : (line front back before text : List ℕ) (n : ℕ) → IsCut line front back n
    → front ≡ before ++ 32 ∷ [] → back ≡ 61 ∷ 32 ∷ text → IsSplit line before text
split_made line front back before text n c x y = grind (arith, take-append-drop, none_before, (append_assoc before (32 ∷ []) (61 ∷ 32 ∷ text)))

-- a line is split in one way
pub split_once : (line before text other rest : List ℕ) → IsSplit line before text
    → IsSplit line other rest → (before ≡ other) × (text ≡ rest)
split_once line before text other rest h k =
    let same = first_once (before ++ 32 ∷ []) (32 ∷ text) (other ++ 32 ∷ []) (32 ∷ rest) (none_more before h.first) (none_more other k.first) (sym (at_sign line before text h) ∙ at_sign line other rest k) in
    (append_cancel_right before other (32 ∷ []) same.0, tail-eq_of_cons-eq same.1)

-- ---- what lines record

pub recorded : (line before text : List ℕ) (s : Step) → length line ≤ 300 → IsSplit line before text
    → IsStep before s → IsRecord line s text
recorded line before text s short h is = grind arith

pub unsplit_none : (line : List ℕ) → IsUnsplit line → IsNoRecord line
unsplit_none line none = λ s text r. none r.before text (assumption r)

pub bad_none : (line before text : List ℕ) → IsSplit line before text → IsBad before
    → IsNoRecord line
bad_none line before text h bad = λ s other r. bad s (subst (λ (l : List ℕ). IsStep l s) (split_once line r.before other before text (assumption r) h).0 r.step)

-- what stands before the sign is no longer than the line
pub short_before : (line before text : List ℕ) → length line ≤ 300 → IsSplit line before text
    → length before ≤ 300
short_before line before text short h = grind (arith, length-append)

pub long_none : (line : List ℕ) → 300 < length line → IsNoRecord line
long_none line long = λ s text r. let short : length line ≤ 300 = r.short in absurd (omega arith)

-- a line records one step with one text at most
pub record_once : (line : List ℕ) (s t : Step) (text rest : List ℕ) → IsRecord line s text
    → IsRecord line t rest → (s ≡ t) × (text ≡ rest)
record_once line s t text rest h k =
    let same = split_once line h.before text k.before rest (assumption h) (assumption k) in
    (step_once k.before s t (subst (λ (l : List ℕ). IsStep l s) same.0 h.step) k.step, same.1)
