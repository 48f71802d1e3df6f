-- Endings and the places that are noted for their marks: what is there is found, and what is added is noted.
use Rattle.std.proofs.Common.{◌≡◌, ℕ, Bool, true, false, List, [], ◌∷◌, ◌++◌, length, get_or, Some, None, refl, sym, subst, ap, ◌∙◌, cond, arith, inl, inr}
use Rattle.uring_outcomes.proofs.Common.{Contains, Contains-append_left, Contains-push, Ending, Global, HasPlace, IsSomeAnd, NotesPlace, Vec, cases_lt, eq-eqb, eqb-true, get_or_append_left, get_or_from_slice_get, get_or_push, length_push, mark_of, nat_eq, slice_get, slice_get-get_or, slice_get_within}
use Rattle.std.specs.HashMap.{HashMap, get}

-- what stands in a list stands at a place of it
pub place_of : (xs : List Ending) (e : Ending) → Contains xs e → (k : ℕ) × (slice_get xs k ≡ Some e)
place_of xs e there = grind (arith, slice_get-get_or)

-- the places that were known for a mark, and one more, are noted for it
pub noted_more : {S : Type 0} (old mid new : HashMap ℕ (Vec ℕ Global) S) (known more : Vec ℕ Global) (mark place : ℕ)
    → ((k : ℕ) → HasPlace old mark k → Contains known.items k)
    → ((m : ℕ) → (m ≡ mark → ⊥) → get nat_eq mid m ≡ get nat_eq old m)
    → more.items ≡ known.items ++ place ∷ []
    → ((q : ℕ) → get nat_eq new q ≡ cond (nat_eq mark q) (Some more) (get nat_eq mid q))
    → NotesPlace old new mark place
noted_more old mid new known more mark place knows others is updates = record {
  kept = λ m k has. by_mark m k has (nat_eq mark m) refl;
  noted = at_mark place (subst (λ xs. Contains xs place) (sym is) (Contains-push known.items place));
} where
  at_mark : (k : ℕ) → Contains more.items k → HasPlace new mark k
  at_mark k has = subst (λ o. IsSomeAnd o (λ v. Contains v.items k)) (sym (updates mark ∙ ap (λ b. cond b (Some more) (get nat_eq mid mark)) (eq-eqb mark mark refl))) has

  by_mark : (m k : ℕ) → HasPlace old m k → (same : Bool) → nat_eq mark m ≡ same → HasPlace new m k
  by_mark m k has true same =
      let e : mark ≡ m = eqb-true mark m same in
      subst (λ j. HasPlace new j k) e (at_mark k (subst (λ xs. Contains xs k) (sym is) (Contains-append_left known.items (place ∷ []) k (knows k (subst (λ j. HasPlace old j k) (sym e) has)))))
  by_mark m k has false other = grind arith

-- one ending more, whose place is noted for its mark
pub indexed_more : {S : Type 0} (olds news : List Ending) (old new : HashMap ℕ (Vec ℕ Global) S) (e : Ending) (mark place : ℕ)
    → ((k : ℕ) (x : Ending) → slice_get olds k ≡ Some x → HasPlace old (mark_of x.posted) k)
    → mark ≡ mark_of e.posted → place ≡ length olds → news ≡ olds ++ e ∷ [] → NotesPlace old new mark place
    → (k : ℕ) (x : Ending) → slice_get news k ≡ Some x → HasPlace new (mark_of x.posted) k
indexed_more olds news old new e mark place was is at more noted k x there =
    let here : slice_get (olds ++ e ∷ []) k ≡ Some x = subst (λ es. slice_get es k ≡ Some x) more there in
    let got : get_or (olds ++ e ∷ []) k x ≡ x = get_or_from_slice_get (olds ++ e ∷ []) k x x here in
    elim (cases_lt k (length olds)) [
      | inl low ↦ noted.kept (mark_of x.posted) k (was k x (slice_get-get_or olds k x low ∙ ap (λ y. Some y) (sym (get_or_append_left olds (e ∷ []) x k low) ∙ got)))
      | inr high ↦
          let last : length olds ≡ k = omega (arith, high, slice_get_within (olds ++ e ∷ []) k x here, length_push olds e) in
          let same : e ≡ x = sym (get_or_push olds e x k last) ∙ got in
          subst (λ m. HasPlace new m k) (is ∙ ap (λ (y : Ending). mark_of y.posted) same) (subst (λ p. HasPlace new mark p) (at ∙ last) noted.noted)
    ]

pub known_place : {S : Type 0} (places : HashMap ℕ (Vec ℕ Global) S) (known : Vec ℕ Global) (mark k : ℕ)
    → Some known ≡ get nat_eq places mark → HasPlace places mark k → Contains known.items k
known_place places known mark k is has = grind arith

pub no_place : {S : Type 0} (places : HashMap ℕ (Vec ℕ Global) S) (mark k : ℕ)
    → None ≡ get nat_eq places mark → HasPlace places mark k → ⊥
no_place places mark k is has = subst (λ o. IsSomeAnd o (λ v. Contains v.items k)) (sym is) has
