-- Groups that a drain holds back: where they stand, whether their members ask to drain, and who goes on first.
use Rattle.std.proofs.Common.{◌≡◌, ℕ, suc, ◌-◌, ◌<◌, ◌≤◌, min, max, length, Bool, true, false, ◌&&◌, ◌||◌, List, [], ◌∷◌, ◌++◌, arith}
use Rattle.uring_laws.proofs.Common.{Deferred, InOrder, Requests, among_tells, both_ways, drain_before, drains, entry_of, from_drain, is_drain, is_in_group, is_in_some, is_joined, is_joined_no, is_joined_yes, is_last, length_push, or_cases, order_above, some_below_none, still_deferred, takes_drain}

-- whether n makes its group drain: it asks to, or takes a drain that is owed
abbrev pub marks : Requests → ℕ → Bool
marks r n = is_drain (entry_of r n) || takes_drain r n

-- one group of the requests, of which no member makes it drain unless it is told to drain
pub record IsTold (r : Requests) (g : Deferred) : Type 0 where
  pub begins : (k : ℕ) → suc k ≡ g.from → is_last r k ≡ true
  pub ends : (k : ℕ) → suc k ≡ g.end → is_last r k ≡ true
  pub one : (k : ℕ) → g.from ≤ k → suc k < g.end → is_last r k ≡ false
  pub told : g.drains ≡ false → (k : ℕ) → g.from ≤ k → k < g.end → marks r k ≡ false

-- such groups, one after the other, from one number on and before another
abbrev pub AreTold : Requests → ℕ → List Deferred → ℕ → Type 0
AreTold r = InOrder (IsTold r)

-- Members.

-- no group goes on past the end of another
pub parted : (r : Requests) (m n end : ℕ) → ((k : ℕ) → suc k ≡ end → is_last r k ≡ true)
    → min m n < end → end ≤ max m n → is_in_group r m n ≡ false
parted r m n end ends low high =
    is_joined_no r (min m n) (max m n) (end - 1) (omega (arith, low)) (omega (arith, low, high)) (ends (end - 1) (omega (arith, low)))

-- in a group that isn't told to drain nobody drains
pub calm : (r : Requests) (g : Deferred) (n : ℕ) → IsTold r g → g.drains ≡ false → g.from ≤ n → n < g.end
    → drains r n ≡ false
calm r g n is still low high =
    some_below_none (λ m. is_in_group r m n && marks r m) (length r.accepted)
    (λ m _. grind (arith, (parted r m n g.from is.begins), (parted r m n g.end is.ends)))

-- Groups go on.

-- whoever stands before the first group that drains doesn't drain, and whoever stands before it does so too
drain_calm : (r : Requests) (low : ℕ) (xs : List Deferred) (high n : ℕ) → AreTold r low xs high
    → is_in_some xs n ≡ true → is_in_some (from_drain xs) n ≡ false → drains r n ≡ false
drain_calm r low [] high n t here gone = absurd (let f : false ≡ true = here in cc)
drain_calm r low (g ∷ rest) high n t here gone =
    grind (arith, calm, or_cases, among_tells, both_ways, (drain_calm r g.end rest high n t.3))

-- Whoever goes on, if all that is outstanding is deferred, doesn't drain if someone before it is deferred that isn't of its group, and that one doesn't drain either.
pub gone_calm : (r : Requests) (low : ℕ) (xs : List Deferred) (high n m : ℕ) → AreTold r low xs high
    → is_in_some xs n ≡ true → is_in_some (still_deferred true xs) n ≡ false → is_in_some xs m ≡ true
    → m < n → is_joined r m n ≡ false → (drains r n ≡ false) × (drains r m ≡ false)
gone_calm r low xs high n m t here gone there lt apart =
    grind (arith, (drain_calm r low xs high n t here), (drain_calm r low xs high m t there), (drain_before (IsTold r) low xs high n m t here), or_cases, among_tells, both_ways, (is_joined_yes r m n), order_above)

pub left_calm : (r : Requests) (low : ℕ) (xs : List Deferred) (g : Deferred) (high k : ℕ)
    → AreTold r low (xs ++ g ∷ []) high → g.drains ≡ false → still_deferred true (xs ++ g ∷ []) ≡ []
    → is_in_some (xs ++ g ∷ []) k ≡ true → drains r k ≡ false
left_calm r low [] g high k t is none here = grind (arith, (drain_calm r low (g ∷ []) high k t here))
left_calm r low (x ∷ rest) g high k t is none here = grind (arith, (drain_calm r low (x ∷ rest ++ g ∷ []) high k t here), (length_push rest g))
