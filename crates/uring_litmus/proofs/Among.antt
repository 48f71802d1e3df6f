-- Parts that stand among others, one part after the other.
use Rattle.std.proofs.Common.{◌≡◌, ◌↔◌, ℕ, ◌+◌, ◌-◌, ◌<◌, ◌≤◌, Bool, true, false, List, [], ◌∷◌, ◌++◌, length, take, drop, get_or, refl, sym, ap, subst, ◌∙◌, arith, inl, inr, drop-cons}
use Rattle.uring_litmus.proofs.Common.{AreAmong, Contains, Contains-push_cases, Global, StandsSome, String, Vec, length-map, lines_in, map-append, nat_eq, slice_get_read, string_bytes, take_all, texts_of}
use Rattle.std.proofs.Math.ListN.{drop_of_length-le}
use Rattle.std.proofs.lemmas.Bool.{eq-eqb, eqb-true}
use Rattle.uring_litmus.proofs.Texts.{next_taken}
use Rattle.uring_litmus.proofs.Places.{to_map, at_place}

-- further parts in front change nothing
pub among_after : (wanted : List (List ℕ)) (p : List ℕ) (parts : List (List ℕ)) → AreAmong wanted parts
    → AreAmong wanted (p ∷ parts)
among_after [] p parts are = tt
among_after (w ∷ wanted) p parts are = (p ∷ are.0, are.1, ap (λ l. p ∷ l) are.2, are.3)

after_all : (wanted front parts : List (List ℕ)) → AreAmong wanted parts → AreAmong wanted (front ++ parts)
after_all wanted [] parts are = are
after_all wanted (p ∷ front) parts are = among_after wanted p (front ++ parts) (after_all wanted front parts are)

rest_of : {x y : List ℕ} {xs ys : List (List ℕ)} → x ∷ xs ≡ y ∷ ys → xs ≡ ys
rest_of e = cc

first_of : {x y : List ℕ} {xs ys : List (List ℕ)} → x ∷ xs ≡ y ∷ ys → x ≡ y
first_of e = cc

-- the first one wanted is this part
met_down : (w : List ℕ) (wanted : List (List ℕ)) (p : List ℕ) (parts before after : List (List ℕ))
    → p ∷ parts ≡ before ++ w ∷ after → AreAmong wanted after → AreAmong wanted parts
met_down w wanted p parts [] after e are = subst (λ l. AreAmong wanted l) (sym (rest_of e)) are
met_down w wanted p parts (b ∷ before) after e are = grind (arith, rest_of, after_all, among_after)

pub met : (w : List ℕ) (wanted : List (List ℕ)) (p : List ℕ) (parts : List (List ℕ)) → w ≡ p
    → AreAmong (w ∷ wanted) (p ∷ parts) ↔ AreAmong wanted parts
met w wanted p parts same = (
  λ are. met_down w wanted p parts are.0 are.1 are.2 are.3,
  λ are. ([], parts, ap (λ x. x ∷ parts) (sym same), are),
)

-- it isn't
unmet_down : (w : List ℕ) (wanted : List (List ℕ)) (p : List ℕ) (parts before after : List (List ℕ))
    → (w ≡ p → ⊥) → p ∷ parts ≡ before ++ w ∷ after → AreAmong wanted after
    → AreAmong (w ∷ wanted) parts
unmet_down w wanted p parts [] after other e are = absurd (other (sym (first_of e)))
unmet_down w wanted p parts (b ∷ before) after other e are = (before, after, rest_of e, are)

pub unmet : (w : List ℕ) (wanted : List (List ℕ)) (p : List ℕ) (parts : List (List ℕ)) → (w ≡ p → ⊥)
    → AreAmong (w ∷ wanted) (p ∷ parts) ↔ AreAmong (w ∷ wanted) parts
unmet w wanted p parts other = (
  λ are. unmet_down w wanted p parts are.0 are.1 other are.2 are.3,
  λ are. among_after (w ∷ wanted) p parts are,
)

-- among no parts stand none
some_in_none : (before after : List (List ℕ)) (w : List ℕ) → [] ≡ before ++ w ∷ after → ⊥
some_in_none [] after w e = cc
some_in_none (b ∷ before) after w e = cc

pub among_none : (wanted : List (List ℕ)) → AreAmong wanted [] → length wanted ≡ 0
among_none [] are = refl
among_none (w ∷ wanted) are = absurd (some_in_none are.0 are.1 w are.2)

pub none_among : (wanted parts : List (List ℕ)) → length wanted ≡ 0 → AreAmong wanted parts
none_among [] parts none = tt
none_among (w ∷ wanted) parts none = absurd (omega arith)

-- Lines, one more at a time.

-- the parts of the first so many lines, and of one more
pub lines_more : (lines : List (Vec (String Global) Global)) (i : ℕ) (line : Vec (String Global) Global)
    → i < length lines → line ≡ get_or lines i line
    → lines_in (take (i + 1) lines) ≡ lines_in (take i lines) ++ texts_of line.items ∷ []
lines_more lines i line low is = ap lines_in (next_taken lines i line low is) ∙ map-append (λ (v : Vec (String Global) Global). texts_of v.items) (take i lines) (line ∷ [])

-- a line that stands is one of all
pub stands_at : (lines : List (Vec (String Global) Global)) (i : ℕ) (line : Vec (String Global) Global) (parts : List (List ℕ))
    → i < length lines → line ≡ get_or lines i line → AreAmong (texts_of line.items) parts
    → (true ≡ true) ↔ StandsSome (lines_in lines) parts
stands_at lines i line parts low is are = (
  λ yes. (texts_of line.items, to_map (λ (v : Vec (String Global) Global). texts_of v.items) lines line (at_place lines i line (slice_get_read lines (length lines) i line refl low is)), are),
  λ some. refl,
)

-- none of no line stands
pub none_yet : (parts : List (List ℕ)) → StandsSome [] parts → ⊥
none_yet parts some = let low = some.1.1 in omega arith

-- none of all stands
pub none_stands : (lines : List (Vec (String Global) Global)) (i : ℕ) (parts : List (List ℕ)) → length lines ≤ i
    → (StandsSome (lines_in (take i lines)) parts → ⊥) → (false ≡ true) ↔ StandsSome (lines_in lines) parts
none_stands lines i parts past none = (
  λ yes. absurd (let no : false ≡ true = yes in cc),
  λ some. absurd (none (subst (λ l. StandsSome (lines_in l) parts) (sym (take_all i lines past)) some)),
)

-- none of the first so many stands, nor one more
pub none_more : (lines : List (Vec (String Global) Global)) (i : ℕ) (line : Vec (String Global) Global) (parts : List (List ℕ))
    → i < length lines → line ≡ get_or lines i line
    → (StandsSome (lines_in (take i lines)) parts → ⊥) → (AreAmong (texts_of line.items) parts → ⊥)
    → StandsSome (lines_in (take (i + 1) lines)) parts → ⊥
none_more lines i line parts low is none other some =
    elim (Contains-push_cases (lines_in (take i lines)) (texts_of line.items) some.0 (subst (λ l. Contains l some.0) (lines_more lines i line low is) some.1)) [
      | inl before ↦ none (some.0, before, some.2)
      | inr same ↦ other (subst (λ l. AreAmong l parts) (sym same) some.2)
    ]

-- Parts, one more at a time: what is wanted of those that are left.
pub one_part : (parts : List (String Global)) (i : ℕ) (part : String Global) (wanted wanted' : List (List ℕ)) (A : Type 0)
    → i < length parts → part ≡ get_or parts i part → A ↔ AreAmong wanted (texts_of (drop i parts))
    → ((after : List (List ℕ)) → AreAmong wanted (string_bytes part ∷ after) ↔ AreAmong wanted' after)
    → A ↔ AreAmong wanted' (texts_of (drop (i + 1) parts))
one_part parts i part wanted wanted' A low is before step = grind (arith, drop-cons)

-- none is left
pub last_part : (parts wanted : List (String Global)) (i : ℕ) (A : Type 0) (r : Bool) → length parts ≤ i
    → r ≡ nat_eq (length wanted) 0 → A ↔ AreAmong (texts_of wanted) (texts_of (drop i parts))
    → (r ≡ true) ↔ A
last_part parts wanted i A r past is both = grind (arith, drop_of_length-le, length-map, none_among, eqb-true, eq-eqb, among_none)

-- nothing more is wanted
pub none_wanted : (wanted : List (String Global)) (parts : List (List ℕ)) (A : Type 0) → length wanted ≡ 0
    → A ↔ AreAmong (texts_of wanted) parts → (true ≡ true) ↔ A
none_wanted [] parts A none both = (λ yes. both.1 tt, λ a. refl)
none_wanted (w ∷ wanted) parts A none both = absurd (omega arith)

-- The first one wanted, as the code has it.
pub met_at : (wanted : List (String Global)) (first : String Global) (p : List ℕ) (after : List (List ℕ)) → 0 < length wanted
    → first ≡ get_or wanted 0 first → string_bytes first ≡ p
    → AreAmong (texts_of wanted) (p ∷ after) ↔ AreAmong (texts_of (take (length wanted - 1) (drop 1 wanted))) after
met_at [] first p after some is same = absurd (omega arith)
met_at (x ∷ wanted) first p after some is same =
    let all : take (length (x ∷ wanted) - 1) wanted ≡ wanted = take_all (length (x ∷ wanted) - 1) wanted (omega arith) in
    subst (λ l. AreAmong (string_bytes x ∷ texts_of wanted) (p ∷ after) ↔ AreAmong (texts_of l) after) (sym all)
    (met (string_bytes x) (texts_of wanted) p after (ap string_bytes (sym is) ∙ same))

pub unmet_at : (wanted : List (String Global)) (first : String Global) (p : List ℕ) (after : List (List ℕ)) → 0 < length wanted
    → first ≡ get_or wanted 0 first → (string_bytes first ≡ p → ⊥)
    → AreAmong (texts_of wanted) (p ∷ after) ↔ AreAmong (texts_of wanted) after
unmet_at [] first p after some is other = absurd (omega arith)
unmet_at (x ∷ wanted) first p after some is other =
    unmet (string_bytes x) (texts_of wanted) p after (λ same. other (ap string_bytes is ∙ same))
