-- Counts that rise by one where something counts, and what was noted of them earlier.
use Rattle.std.proofs.Common.{◌≡◌, ◌≤◌, ℕ, ◌+◌, Bool, false, not, ◌&&◌, ◌==◌, if◌then◌else◌, arith}
use Rattle.std.proofs.lemmas.Bool.{ne_eqb}

pub grows : (n c : ℕ) (b : Bool) → n ≤ c → n ≤ (if b then c + 1 else c)
grows n c b le = grind arith

-- it is the same as the count where nothing has counted since
pub stays : (n c : ℕ) (b k : Bool) → n ≤ c → (n == c) ≡ k → (n == (if b then c + 1 else c)) ≡ (not b && k)
stays n c b k le is = grind arith

pub apart : (n c : ℕ) → n ≤ c → (n == (c + 1)) ≡ false
apart n c le = ne_eqb n (c + 1) (λ same. omega (arith, le, same))

-- what is counted from 1 on is never 0
pub never : (n : ℕ) → 1 ≤ n → (0 == n) ≡ false
never n is = ne_eqb 0 n (λ same. omega (arith, is, same))
