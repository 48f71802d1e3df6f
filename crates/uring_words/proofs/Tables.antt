-- Numbers tell tables apart.
use Rattle.std.proofs.Common.{◌≡◌, ℕ, List, ◌++◌, length, take, drop, sym, ◌∙◌, ap₂, arith}
use Rattle.std.proofs.Math.Seq.{take-append_seam, drop-append_seam}
use Rattle.atomic_table.specs.Seated.{TableId}
use Rattle.uring_words.specs.PortViews.{numbers_of_tables}

same_parts : (xs ys us vs : List ℕ) → length xs ≡ length us → xs ++ ys ≡ us ++ vs
    → (xs ≡ us) × (ys ≡ vs)
same_parts xs ys us vs many e = (
  sym (take-append_seam xs ys) ∙ ap₂ (λ (n : ℕ) (l : List ℕ). take n l) many e ∙ take-append_seam us vs,
  sym (drop-append_seam xs ys) ∙ ap₂ (λ (n : ℕ) (l : List ℕ). drop n l) many e ∙ drop-append_seam us vs,
)

-- the numbers of a pair of tables are those of no other
pub same_tables : (z y u v : TableId) → numbers_of_tables z y ≡ numbers_of_tables u v
    → (z ≡ u) × (y ≡ v)
same_tables z y u v e = grind (arith, same_parts)
