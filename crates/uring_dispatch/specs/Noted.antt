-- Glue. What is noted of user data: between which numbers they stand.
use Rattle.std.specs.Prelude.{◌≡◌, ℕ, ◌≤◌, true, Option, Some, is_some}
use Rattle.uring_dispatch.specs.declared.by_user_data.Ends.{Ends}
use Rattle.uring_dispatch.specs.Window.{Window, at}

-- n is between the numbers that are noted for these user data
pub record IsBetween (noted : ℕ → Option Ends) (named_data n : ℕ) : Type 0 where
  pub there : is_some (noted named_data) ≡ true
  pub within : (e : Ends) → noted named_data ≡ Some e → (e.first ≤ n) × (n ≤ e.last)

-- who is outstanding, up to n, stays between the numbers that are noted
abbrev pub KeepsBetween : Window → (ℕ → Option Ends) → (ℕ → Option Ends) → ℕ → Type 0
KeepsBetween w old new n = (named_data k : ℕ) → is_some (at w k) ≡ true → k ≤ n
    → IsBetween old named_data k → IsBetween new named_data k
