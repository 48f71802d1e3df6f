-- The parts of a choice: what stands before the first 0, and what stands after it.
use Rattle.std.proofs.Common.{◌≡◌, ◌<◌, ◌-◌, ℕ, zero, suc, List, [], ◌∷◌, length, get_or, take, drop, refl, arith}
use Rattle.uring_volume.proofs.Common.{length-drop, ne_eqb, part, take_all}

-- no 0 stands below index i
abbrev pub NoneBelow : List ℕ → ℕ → Type 0
NoneBelow choice i = (k : ℕ) → k < i → get_or choice k 0 ≡ 0 → ⊥

later_none : (n : ℕ) (later : List ℕ) (i : ℕ) → NoneBelow (n ∷ later) (suc i) → NoneBelow later i
later_none n later i none k below = none (suc k) (omega arith)

isnt_end : (n : ℕ) (later : List ℕ) (i : ℕ) → NoneBelow (n ∷ later) (suc i) → n ≡ 0 → ⊥
isnt_end n later i none = none 0 (omega arith)

pub part_first : (choice : List ℕ) (i : ℕ) → NoneBelow choice i → i < length choice
    → get_or choice i 0 ≡ 0 → take i choice ≡ part choice 0
part_first [] i none within here = absurd (omega arith)
part_first (n ∷ later) zero none within here = grind arith
part_first (n ∷ later) (suc i) none within here =
    grind (arith, (part_first later i (later_none n later i none) (omega arith) here), later_none, ne_eqb, isnt_end)

pub part_later : (choice : List ℕ) (i : ℕ) → NoneBelow choice i → i < length choice
    → get_or choice i 0 ≡ 0 → (j : ℕ) → part (drop (suc i) choice) j ≡ part choice (suc j)
part_later [] i none within here j = absurd (omega arith)
part_later (n ∷ later) zero none within here j = grind arith
part_later (n ∷ later) (suc i) none within here j =
    grind (arith, (part_later later i (later_none n later i none) (omega arith) here j), later_none, ne_eqb, isnt_end)

pub part_all : (choice : List ℕ) → NoneBelow choice (length choice) → choice ≡ part choice 0
part_all [] none = refl
part_all (n ∷ later) none = grind (arith, (part_all later (later_none n later (length later) none)), later_none, ne_eqb, isnt_end)

pub part_none : (choice : List ℕ) → NoneBelow choice (length choice) → (j : ℕ)
    → [] ≡ part choice (suc j)
part_none [] none j = refl
part_none (n ∷ later) none j =
    grind (arith, (part_none later (later_none n later (length later) none) j), later_none, ne_eqb, isnt_end)

-- all of a list after an index
pub all_after : (choice : List ℕ) (n : ℕ) → take (length choice - n) (drop n choice) ≡ drop n choice
all_after choice n = take_all (length choice - n) (drop n choice) (omega (arith, length-drop n choice))
