-- Searches and counts among the numbers below a bound.
use Rattle.std.specs.Prelude.{ℕ, zero, suc, ◌+◌, Bool, false, ◌||◌, List, [], ◌∷◌, ◌++◌, Option, Some, None, if◌then◌else◌}

-- whether p holds of some number below n
abbrev pub some_below : (ℕ → Bool) → ℕ → Bool
some_below p zero = false
some_below p (suc n) = some_below p n || p n

-- what was found, or else n if p holds of it
abbrev pub found_or : Option ℕ → Bool → ℕ → Option ℕ
found_or (Some m) holds n = Some m
found_or None holds n = if holds then Some n else None

-- the least number below n of which p holds
abbrev pub least_below : (ℕ → Bool) → ℕ → Option ℕ
least_below p zero = None
least_below p (suc n) = found_or (least_below p n) (p n) n

-- how many numbers below n have p
abbrev pub count_below : (ℕ → Bool) → ℕ → ℕ
count_below p zero = 0
count_below p (suc n) = count_below p n + (if p n then 1 else 0)

-- the numbers below n of which p holds, in order
abbrev pub all_below : (ℕ → Bool) → ℕ → List ℕ
all_below p zero = []
all_below p (suc n) = all_below p n ++ (if p n then n ∷ [] else [])
