-- Glue. The least request that keeps another from starting.
use Rattle.std.specs.Prelude.{◌≡◌, ℕ, ◌<◌, true, false}
use Rattle.uring_entry.specs.Requests.{Requests, holds_back}

-- Of the requests before n none that is less than m keeps it from starting, and m does, if it is before n.
pub record IsFirstHolder (r : Requests) (n m : ℕ) : Type 0 where
  pub before : (k : ℕ) → k < m → k < n → holds_back r n k ≡ false
  pub here : m < n → holds_back r n m ≡ true
