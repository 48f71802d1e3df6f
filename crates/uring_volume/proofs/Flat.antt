-- A choice as one list of numbers, for each image.
use Rattle.std.proofs.Common.{◌≡◌, ◌<◌, ◌/◌, ℕ, zero, suc, List, [], ◌∷◌, ◌++◌, length, refl, sym, ap, ◌∙◌, inl, inr, arith}
use Rattle.uring_volume.proofs.Common.{AreBelow, History, IsChosen, IsImage, IsIn, IsLawful, IsLeftBy, Write, byte_over, chosen, div-le_self, ext_get_or, filter, is_on, issued, length_over, ne_eqb, part, slice_index, writes}
use Rattle.uring_volume.proofs.Fitting.{in_either}
use Rattle.uring_volume.proofs.Chosen.{NameWrites, image_is_named}

-- none of these numbers is 0
abbrev HasNone : List ℕ → Type 0
HasNone ns = (n : ℕ) → IsIn n ns → n ≡ 0 → ⊥

part_front : (ns rest : List ℕ) → HasNone ns → part (ns ++ 0 ∷ rest) 0 ≡ ns
part_front [] rest none = refl
part_front (n ∷ ns) rest none =
    rw (ne_eqb n 0 (none n (inl refl))) (ap (λ ms. n ∷ ms) (part_front ns rest (λ m among. none m (inr among))))

part_back : (ns rest : List ℕ) (i : ℕ) → HasNone ns → part (ns ++ 0 ∷ rest) (suc i) ≡ part rest i
part_back [] rest i none = refl
part_back (n ∷ ns) rest i none =
    grind (arith, (ne_eqb n 0 (none n (inl refl))), (part_back ns rest i (λ m among. none m (inr among))))

-- the first n of these choices in one list
abbrev flat : (ℕ → List ℕ) → ℕ → List ℕ
flat choices zero = []
flat choices (suc n) = choices 0 ++ 0 ∷ flat (λ i. choices (suc i)) n

part_flat : (choices : ℕ → List ℕ) (n i : ℕ) → ((j : ℕ) → HasNone (choices j)) → i < n
    → part (flat choices n) i ≡ choices i
part_flat choices zero i none within = absurd (omega arith)
part_flat choices (suc n) zero none within =
    part_front (choices 0) (flat (λ i. choices (suc i)) n) (none 0)
part_flat choices (suc n) (suc i) none within =
    part_back (choices 0) (flat (λ j. choices (suc j)) n) i (none 0)
    ∙ part_flat (λ j. choices (suc j)) n i (λ j. none (suc j)) (omega arith)

flat_below : (bound : ℕ) (choices : ℕ → List ℕ) (n : ℕ) → 0 < bound
    → ((i : ℕ) → AreBelow bound (choices i)) → AreBelow bound (flat choices n)
flat_below bound choices zero some below m among = absurd among
flat_below bound choices (suc n) some below m among =
    elim (in_either m (choices 0) (0 ∷ flat (λ i. choices (suc i)) n) among) [
      | inl here ↦ below 0 m here
      | inr there ↦ elim there [
        | inl same ↦ omega (arith, same)
        | inr later ↦ flat_below bound (λ i. choices (suc i)) n some (λ i. below (suc i)) m later
      ]
    ]

-- the choice for the length, and after it those for the units
abbrev both : List ℕ → (ℕ → List ℕ) → ℕ → List ℕ
both whole choices zero = whole
both whole choices (suc i) = choices i

both_none : (whole : List ℕ) (choices : ℕ → List ℕ) → HasNone whole
    → ((i : ℕ) → HasNone (choices i)) → (j : ℕ) → HasNone (both whole choices j)
both_none whole choices w c j = grind arith

both_below : (bound : ℕ) (whole : List ℕ) (choices : ℕ → List ℕ) → AreBelow bound whole
    → ((i : ℕ) → AreBelow bound (choices i)) → (j : ℕ) → AreBelow bound (both whole choices j)
both_below bound whole choices w c zero = w
both_below bound whole choices w c (suc i) = c i

-- the writes of a history have numbers from 1 up to a bound
pub record HaveNumbers (bound : ℕ) (h : History) : Type 0 where
  pub positive : (w : Write) → IsIn w (writes h) → 0 < w.number
  pub below : (w : Write) → IsIn w (writes h) → w.number < bound

none_named : (bound : ℕ) (h : History) (ns : List ℕ) → HaveNumbers bound h → NameWrites h ns
    → HasNone ns
none_named bound h ns have named n among nothing =
    let w = named n among in omega (arith, have.positive w.0 w.1, w.2)

below_named : (bound : ℕ) (h : History) (ns : List ℕ) → HaveNumbers bound h → NameWrites h ns
    → AreBelow bound ns
below_named bound h ns have named n among =
    let w = named n among in omega (arith, have.below w.0 w.1, w.2)

pub image_has_choice : (u bound : ℕ) (first : List ℕ) (h : History) (now : List ℕ) → 0 < bound
    → HaveNumbers bound h → IsLawful h → IsImage u first h now
    → (choice : List ℕ) × AreBelow bound choice × IsLeftBy u first h choice now
image_has_choice u bound first h now some have l image =
    let named = image_is_named u first h now l image in
    let none = both_none named.1 named.0 (none_named bound h named.1 have named.3) (λ i. none_named bound h (named.0 i) have (named.2 i)) in
    let c : IsChosen u first h named.0 named.1 now = named.4 in (
      flat (both named.1 named.0) (suc (length now)),
      flat_below bound (both named.1 named.0) (suc (length now)) some (both_below bound named.1 named.0 (below_named bound h named.1 have named.3) (λ i. below_named bound h (named.0 i) have (named.2 i))),
      record {
        len = c.len ∙ ap (λ ns. length_over (length first) (chosen h (issued h) ns)) (sym (part_flat (both named.1 named.0) (suc (length now)) 0 none (omega arith)));
        bytes = λ k within.
            c.bytes k within
            ∙ ap (λ ns. byte_over (slice_index first k) (chosen h (filter (is_on u (k / u)) (issued h)) ns) k)
            (sym (part_flat (both named.1 named.0) (suc (length now)) (suc (k / u)) none (omega (arith, div-le_self k u))));
      },
    )

-- a choice leaves one image
pub left_once : (u : ℕ) (first : List ℕ) (h : History) (choice now other : List ℕ)
    → IsLeftBy u first h choice now → IsLeftBy u first h choice other → now ≡ other
left_once u first h choice now other a b =
    let same : length now ≡ length other = a.len ∙ sym b.len in
    ext_get_or 0 now other same (λ k within.
    let inside : k < length other = omega arith in
    a.bytes k within ∙ sym (b.bytes k inside))
