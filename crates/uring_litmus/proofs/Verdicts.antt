-- Verdicts on claims of what was found, and outcomes that are chosen among it.
use Rattle.std.proofs.Common.{◌≡◌, ◌↔◌, ◌+◌, ◌<◌, ◌≤◌, ℕ, Bool, true, false, List, [], ◌∷◌, ◌++◌, length, map, take, get_or, Option, Some, None, Result, Ok, Err, if◌then◌else◌, refl, sym, ap, subst, ◌∙◌, inl, inr, arith}
use Rattle.uring_litmus.proofs.Common.{Contains, Contains-push_cases, Ending, Finds, Form, Global, IsAgainst, IsLineOf, IsShown, IsSoOf, IsVerdict, Judges, MatchOption, StandsSome, String, accepted_of, is_so, map-append, slice_get, slice_get_read, slice_get_within, string_bytes, take_all, texts_of}
use Rattle.uring_entry.specs.Setup.{Setup}
use Rattle.uring_litmus.specs.declared.claims.Claim.{Claim}
use Rattle.uring_litmus.specs.declared.judging.Judged.{Judged}
use Rattle.uring_litmus.specs.declared.judging.Judged.TheVariants as judged
use Rattle.uring_litmus.specs.declared.judging.Chosen.TheVariants as chosen
use Rattle.uring_litmus.specs.Choices.{IsPlaceOf, Chooses}
use Rattle.uring_litmus.proofs.Texts.{next_taken}
use Rattle.uring_litmus.proofs.Places.{at_place, zip_at}
use Rattle.uring_litmus.proofs.Listed.{all_shown}

some_same : {x y : Ending} → Some x ≡ Some y → x ≡ y
some_same e = cc

-- A claim is so of the first so many outcomes, and of one more.
pub so_of_more : (claim : Claim) (lines : List (List (List ℕ))) (endings : List Ending) (i : ℕ) (x : Ending)
    → i < length endings → x ≡ get_or endings i x
    → ((e : Ending) → Contains (take i endings) e → IsSoOf claim lines e) → IsSoOf claim lines x
    → (e : Ending) → Contains (take (i + 1) endings) e → IsSoOf claim lines e
so_of_more claim lines endings i x low is before here e has =
    elim (Contains-push_cases (take i endings) x e (subst (λ l. Contains l e) (next_taken endings i x low is) has)) [
      | inl old ↦ before e old
      | inr same ↦ subst (λ y. IsSoOf claim lines y) same here
    ]

pub so_of_none : (claim : Claim) (lines : List (List (List ℕ))) (e : Ending) → Contains [] e
    → IsSoOf claim lines e
so_of_none claim lines e has = absurd (let low = has.1 in omega arith)

pub so_of_all : (claim : Claim) (lines : List (List (List ℕ))) (endings : List Ending) (i : ℕ)
    → length endings ≤ i → ((e : Ending) → Contains (take i endings) e → IsSoOf claim lines e)
    → (e : Ending) → Contains endings e → IsSoOf claim lines e
so_of_all claim lines endings i past so e has =
    so e (subst (λ l. Contains l e) (sym (take_all i endings past)) has)

-- It isn't so of the one at this place.
pub against_at : (claim : Claim) (lines : List (List (List ℕ))) (endings : List Ending) (i : ℕ) (x : Ending)
    → i < length endings → x ≡ get_or endings i x → (IsSoOf claim lines x → ⊥)
    → IsAgainst claim lines endings i
against_at claim lines endings i x low is other = grind (arith, slice_get_read)

-- what is said of where one was found of which it isn't so
abbrev pub IsSaid : Claim → List (List (List ℕ)) → List Ending → Option ℕ → Type 0
IsSaid claim lines endings found =
    MatchOption found ((e : Ending) → Contains endings e → IsSoOf claim lines e) (λ at. IsAgainst claim lines endings at)

pub against_low : (claim : Claim) (lines : List (List (List ℕ))) (endings : List Ending) (found : Option ℕ) (at : ℕ)
    → found ≡ Some at → IsSaid claim lines endings found → at < length endings
against_low claim lines endings found at is said =
    let against : IsAgainst claim lines endings at = subst (λ f. IsSaid claim lines endings f) is said in
    slice_get_within endings at against.ending against.there

judges : (g : Setup) (claim : Claim) (lines : List (List (List ℕ))) (endings : List Ending) (is_all : Bool) (said : Judged) (a a' : Option (List ℕ))
    → (finding : Finds g endings is_all a a')
    → IsVerdict g (map accepted_of finding.calls) claim lines said → Judges g claim lines said a a'
judges g claim lines endings is_all said a a' finding verdict = grind arith

-- It fails of one of those that were found.
pub fails : (g : Setup) (claim : Claim) (lines : List (List (List ℕ))) (endings : List Ending) (is_all : Bool) (found : Option ℕ) (at : ℕ) (e : Ending) (a a' : Option (List ℕ))
    → Finds g endings is_all a a' → found ≡ Some at → IsSaid claim lines endings found
    → slice_get endings at ≡ Some e → Judges g claim lines (judged.Fails e) a a'
fails g claim lines endings is_all found at e a a' finding is said there =
    let against : IsAgainst claim lines endings at = subst (λ f. IsSaid claim lines endings f) is said in
    let same : against.ending ≡ e = some_same (sym against.there ∙ there) in
    judges g claim lines endings is_all (judged.Fails e) a a' finding (record {
      can = finding.found.right e (at_place endings at e there);
      against = subst (λ x. IsSoOf claim lines x → ⊥) same against.against;
    })

-- It is so of all that were found.
pub stands : (g : Setup) (claim : Claim) (lines : List (List (List ℕ))) (endings : List Ending) (is_all : Bool) (found : Option ℕ) (count : ℕ) (a a' : Option (List ℕ))
    → Finds g endings is_all a a' → found ≡ None → IsSaid claim lines endings found → count ≡ length endings
    → Judges g claim lines (if is_all then judged.Holds count else judged.Unknown count) a a'
stands g claim lines endings true found count a a' finding is said many =
    let so : (e : Ending) → Contains endings e → IsSoOf claim lines e = subst (λ f. IsSaid claim lines endings f) is said in
    judges g claim lines endings true (judged.Holds count) a a' finding (record {
      so = λ e can. so e ((finding.found.all refl e).1 can);
      endings = endings;
      all = finding.found.all refl;
      once = finding.found.once;
      many = sym many;
    })
stands g claim lines endings false found count a a' finding is said many = grind arith

-- The first place of a line.

pub not_before : (each : List (String Global)) (i : ℕ) (text : String Global) (line : List ℕ)
    → i < length each → text ≡ get_or each i text → (Contains (texts_of (take i each)) line → ⊥)
    → (string_bytes text ≡ line → ⊥) → Contains (texts_of (take (i + 1) each)) line → ⊥
not_before each i text line low is none other has =
    let cut : texts_of (take (i + 1) each) ≡ texts_of (take i each) ++ string_bytes text ∷ [] = ap texts_of (next_taken each i text low is) ∙ map-append string_bytes (take i each) (text ∷ []) in
    elim (Contains-push_cases (texts_of (take i each)) (string_bytes text) line (subst (λ l. Contains l line) cut has)) [
      | inl old ↦ none old
      | inr same ↦ other same
    ]

pub not_yet : (line : List ℕ) → Contains [] line → ⊥
not_yet line has = let low = has.1 in omega arith

pub not_at_all : (each : List (String Global)) (i : ℕ) (line : List ℕ) → length each ≤ i
    → (Contains (texts_of (take i each)) line → ⊥) → Contains (texts_of each) line → ⊥
not_at_all each i line past none has =
    none (subst (λ l. Contains (texts_of l) line) (sym (take_all i each past)) has)

-- The outcome of a line.

pub place_low : (form : Form) (endings : List Ending) (number : ℕ) (found : Result ℕ ℕ) (at : ℕ) → found ≡ Ok at
    → IsPlaceOf form endings number found → at < length endings
place_low form endings number found at is said =
    let place : IsPlaceOf form endings number (Ok at) = subst (λ f. IsPlaceOf form endings number f) is said in
    let x = zip_at (IsLineOf form) endings place.0 at place.2.2.0 place.1 place.2.2.3 in
    slice_get_within endings at x.0 x.1

pub chooses : (form : Form) (setup : Setup) (number : ℕ) (endings : List Ending) (is_all : Bool) (found : Result ℕ ℕ) (at : ℕ) (e : Ending) (a a' : Option (List ℕ))
    → Finds setup endings is_all a a' → found ≡ Ok at → IsPlaceOf form endings number found
    → slice_get endings at ≡ Some e → Chooses form setup number (chosen.Outcome e is_all) a a'
chooses form setup number endings is_all found at e a a' finding is said there =
    grind (arith, zip_at, all_shown, at_place, some_same)

pub misses : (form : Form) (setup : Setup) (number : ℕ) (endings : List Ending) (is_all : Bool) (found : Result ℕ ℕ) (count : ℕ) (a a' : Option (List ℕ))
    → Finds setup endings is_all a a' → found ≡ Err count → IsPlaceOf form endings number found
    → Chooses form setup number (chosen.Missing count is_all) a a'
misses form setup number endings is_all found count a a' finding is said = grind (arith, all_shown)

pub so_by_parts : (claim : Claim) (lines : List (List (List ℕ))) (e : Ending) (parts : List (List ℕ)) (b r : Bool)
    → IsShown (record { is_sorted = false; has_files = true }) e parts → (b ≡ true) ↔ StandsSome lines parts
    → r ≡ is_so claim b → (r ≡ true) ↔ IsSoOf claim lines e
so_by_parts claim lines e parts b r shown both is = grind arith
