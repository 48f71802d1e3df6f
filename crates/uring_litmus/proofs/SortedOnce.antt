-- Lines that were sorted, each left once.
use Rattle.std.proofs.Common.{◌≡◌, ℕ, List, [], ◌∷◌, sym, subst, ◌∙◌}
use Rattle.uring_litmus.proofs.Common.{AllByRecursion, Contains, Global, IsSortedOnce, String, dedup, string_bytes, texts_of}
use Rattle.std.specs.Ordering.{nat_cmp}
use Rattle.std.specs.declared.cmp.Ordering.TheVariants.{Less}
use Rattle.std.specs.Cmp.Lexicographic.{slice_cmp, texts_ties}
use Rattle.std.specs.List.Sorted.{IsPermutation, IsSorted, IsStrictlySortedBy}
use Rattle.std.specs.String.{string_cmp, string_eq, string_cmp_total, string_eq_equiv}
use Rattle.std.proofs.lemmas.List.Kept.{Any-dedup, Contains-from_dedup, IsStrictlySortedBy-dedup}
use Rattle.std.proofs.lemmas.List.Sorted.{Contains-permutation, IsPermutation-sym}
use lib.Pointwise.{bytes_decides}
use Rattle.uring_litmus.proofs.Places.{from_map, to_map}

all_bytes : (s : String Global) (xs : List (String Global))
    → AllByRecursion (λ y. string_cmp s y ≡ Less) xs
    → AllByRecursion (λ y. slice_cmp nat_cmp (string_bytes s) y ≡ Less) (texts_of xs)
all_bytes s [] all = tt
all_bytes s (x ∷ xs) all = (all.0, all_bytes s xs all.1)

sorted_bytes : (xs : List (String Global)) → IsStrictlySortedBy string_cmp xs
    → IsStrictlySortedBy (slice_cmp nat_cmp) (texts_of xs)
unfolding IsStrictlySortedBy
sorted_bytes [] sorted = tt
sorted_bytes (x ∷ xs) sorted = (all_bytes x xs sorted.0, sorted_bytes xs sorted.1)

kept_in : (old mid : List (String Global)) → IsPermutation old mid → (line : List ℕ)
    → Contains (texts_of old) line → Contains (texts_of (dedup string_eq mid)) line
kept_in old mid moved line has =
    let s = from_map string_bytes old line has in
    let one = Any-dedup string_eq_equiv mid s.0 (Contains-permutation old mid s.0 moved s.1) in
    let same : string_bytes s.0 ≡ string_bytes one.1 = (bytes_decides (string_bytes s.0) (string_bytes one.1)).0 one.4 in
    subst (λ (l : List ℕ). Contains (texts_of (dedup string_eq mid)) l) (sym same ∙ s.2) (to_map string_bytes (dedup string_eq mid) one.1 (one.0, one.2, one.3))

right_in : (old mid : List (String Global)) → IsPermutation old mid → (line : List ℕ)
    → Contains (texts_of (dedup string_eq mid)) line → Contains (texts_of old) line
right_in old mid moved line has =
    let s = from_map string_bytes (dedup string_eq mid) line has in
    subst (λ (l : List ℕ). Contains (texts_of old) l) s.2
    (to_map string_bytes old s.0 (Contains-permutation mid old s.0 (IsPermutation-sym old mid moved) (Contains-from_dedup string_eq mid s.0 s.1)))

pub sorted_once : (old mid new : List (String Global)) → IsPermutation old mid → IsSorted string_cmp mid
    → new ≡ dedup string_eq mid → IsSortedOnce (texts_of old) (texts_of new)
sorted_once old mid new moved sorted is =
    subst (λ (l : List (String Global)). IsSortedOnce (texts_of old) (texts_of l)) (sym is)
    (record {
      kept = kept_in old mid moved;
      right = right_in old mid moved;
      sorted = sorted_bytes (dedup string_eq mid) (IsStrictlySortedBy-dedup string_cmp_total (λ x y. texts_ties (string_bytes x) (string_bytes y)) mid sorted);
    })
