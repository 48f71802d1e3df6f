-- Searches below a bound: what an answer tells, and what gives it.
use Rattle.std.proofs.Common.{◌≡◌, ℕ, zero, suc, ◌<◌, ◌≤◌, Bool, true, false, ◌==◌, [], ◌∷◌, cond, Option, Some, None, is_some, refl, sym, ◌∙◌, ap, arith}
use Rattle.uring_entry.proofs.Common.{all_below, both_ways, cases_eq, cases_lt, least_below, list_any, some_below}
use Rattle.std.proofs.lemmas.List.Folds.{list_any-append}

pub least_below_none : (p : ℕ → Bool) (n : ℕ) → ((k : ℕ) → k < n → p k ≡ false)
    → least_below p n ≡ None
least_below_none p zero h = refl
least_below_none p (suc n) h = grind (arith, (least_below_none p n (λ k lt. h k (omega arith))))

pub least_below_some : (p : ℕ → Bool) (n k : ℕ) → k < n → p k ≡ true
    → ((j : ℕ) → j < k → p j ≡ false) → least_below p n ≡ Some k
least_below_some p zero k lt e before = absurd (omega arith)
least_below_some p (suc n) k lt e before = grind (arith, (cases_lt k n), (least_below_some p n k), least_below_none)

-- two tests that agree below the bound
pub least_below_same : (p q : ℕ → Bool) (n : ℕ) → ((k : ℕ) → k < n → p k ≡ q k)
    → least_below p n ≡ least_below q n
least_below_same p q zero h = refl
least_below_same p q (suc n) h = grind (arith, (least_below_same p q n (λ k lt. h k (omega arith))))

-- a bound that goes further, over numbers at which the test fails
pub least_below_between : (p : ℕ → Bool) (n m : ℕ) → n ≤ m → ((k : ℕ) → n ≤ k → k < m → p k ≡ false)
    → least_below p m ≡ least_below p n
least_below_between p n zero le h = grind arith
least_below_between p n (suc m) le h =
    grind (arith, (cases_eq n (suc m)), (λ (high : n ≤ m). least_below_between p n m high (λ k a b. h k a (omega arith))), (h m))

-- what the least number is
pub record IsLeast (p : ℕ → Bool) (n k : ℕ) : Type 0 where
  pub below : k < n
  pub holds : p k ≡ true
  pub before : (j : ℕ) → j < k → p j ≡ false

-- the value that is there
pub is_some_value : {X : Type 0} (o : Option X) → is_some o ≡ true → (q : X) × (o ≡ Some q)
is_some_value o e = grind arith

-- there is a least number where there is some
pub is_some_least_below : (p : ℕ → Bool) (n : ℕ) → is_some (least_below p n) ≡ some_below p n
is_some_least_below p zero = refl
is_some_least_below p (suc n) = grind (arith, (is_some_least_below p n))

-- the same of searches that tell only whether there is some
pub some_below_none : (p : ℕ → Bool) (n : ℕ) → ((k : ℕ) → k < n → p k ≡ false)
    → some_below p n ≡ false
some_below_none p n h = rw (← is_some_least_below, least_below_none p n h)

pub some_below_some : (p : ℕ → Bool) (n k : ℕ) → k < n → p k ≡ true → some_below p n ≡ true
some_below_some p zero k lt e = absurd (omega arith)
some_below_some p (suc n) k lt e = grind (arith, (some_below_some p n k))

pub some_below_out : (p : ℕ → Bool) (n : ℕ) → some_below p n ≡ false → (k : ℕ) → k < n → p k ≡ false
some_below_out p n e k lt = grind (arith, (some_below_some p n k lt))

pub some_below_same : (p q : ℕ → Bool) (n : ℕ) → ((k : ℕ) → k < n → p k ≡ q k)
    → some_below p n ≡ some_below q n
some_below_same p q n h = rw (← is_some_least_below p n, ← is_some_least_below q n, least_below_same p q n h)

pub some_below_between : (p : ℕ → Bool) (n m : ℕ) → n ≤ m → ((k : ℕ) → n ≤ k → k < m → p k ≡ false)
    → some_below p m ≡ some_below p n
some_below_between p n m le h = rw (← is_some_least_below p m, ← is_some_least_below p n, least_below_between p n m le h)

pub least_below_out : (p : ℕ → Bool) (n : ℕ) → least_below p n ≡ None → (k : ℕ) → k < n
    → p k ≡ false
least_below_out p n e = some_below_out p n (sym (is_some_least_below p n) ∙ ap is_some e)

pub least_below_tells : (p : ℕ → Bool) (n k : ℕ) → least_below p n ≡ Some k → IsLeast p n k
least_below_tells p zero k e = cc
least_below_tells p (suc n) k e = grind (arith, (least_below_tells p n k), (least_below_out p n), (λ (j : ℕ). cases_lt j n))

pub least_below_low : (p : ℕ → Bool) (n k : ℕ) → least_below p n ≡ Some k → k < n
least_below_low p n k e = (least_below_tells p n k e).below

pub some_below_in : (p : ℕ → Bool) (n : ℕ) → some_below p n ≡ true
    → (k : ℕ) × (k < n) × (p k ≡ true)
some_below_in p n e =
    let (k, is) = is_some_value (least_below p n) (is_some_least_below p n ∙ e) in
    let least = least_below_tells p n k is in
    (k, least.below, least.holds)

-- Who is among all numbers below a bound of which a test holds.

pub all_below_in : (p : ℕ → Bool) (n m : ℕ) → list_any (λ k. k == m) (all_below p n) ≡ true
    → (m < n) × (p m ≡ true)
all_below_in p zero m e = absurd (both_ways false refl e)
all_below_in p (suc n) m e =
    grind (arith, (all_below_in p n m), (list_any-append (λ k. k == m) (all_below p n) (cond (p n) (n ∷ []) [])))

pub all_below_there : (p : ℕ → Bool) (n m : ℕ) → m < n → p m ≡ true
    → list_any (λ k. k == m) (all_below p n) ≡ true
all_below_there p zero m lt e = absurd (omega arith)
all_below_there p (suc n) m lt e =
    grind (arith, (all_below_there p n m), (list_any-append (λ k. k == m) (all_below p n) (cond (p n) (n ∷ []) [])))

pub all_below_none : (p : ℕ → Bool) (n : ℕ) → ((k : ℕ) → k < n → p k ≡ false) → all_below p n ≡ []
all_below_none p zero h = refl
all_below_none p (suc n) h = grind (arith, (all_below_none p n (λ k lt. h k (omega arith))))

-- one at or past the bound isn't
pub all_below_past : (p : ℕ → Bool) (n m : ℕ) → n ≤ m
    → list_any (λ k. k == m) (all_below p n) ≡ false
all_below_past p n m le = grind (arith, all_below_in)
