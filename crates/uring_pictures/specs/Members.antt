-- What the members of chains are that a graph names. io_uring_enter(2), IOSQE_IO_LINK.
use Rattle.std.specs.Prelude.{◌≡◌, ℕ, ◌<◌, ◌≤◌, true, false, Option, Some, None, is_some}
use Rattle.uring_entry.specs.Requests.{Requests, entry_outstanding, is_joined}
use Rattle.uring_pictures.specs.Graphs.{first_of, member_before}

-- m is the first member of n's group
pub record IsFirst (r : Requests) (n m : ℕ) : Type 0 where
  pub within : m ≤ n
  pub joined : is_joined r m n ≡ true
  pub least : (k : ℕ) → k < m → is_joined r k n ≡ false

-- m is the last member of n's group before n that is outstanding
pub record IsNearest (r : Requests) (n m : ℕ) : Type 0 where
  pub earlier : m < n
  pub joined : is_joined r m n ≡ true
  pub here : is_some (entry_outstanding r m) ≡ true
  pub over : (k : ℕ) → m < k → k < n → is_some (entry_outstanding r k) ≡ false

-- it is that one, or there is none
abbrev pub IsBefore : Requests → ℕ → Option ℕ → Type 0
IsBefore r n (Some m) = IsNearest r n m
IsBefore r n None = (k : ℕ) → k < n → is_joined r k n ≡ true → is_some (entry_outstanding r k) ≡ false

-- the cluster of a chain is named for its first member
abbrev pub ClustersAreNamed : Type 0
ClustersAreNamed = (r : Requests) (n : ℕ) → IsFirst r n (first_of r n)

-- the arrow in a chain leads to the nearest member that hasn't ended
abbrev pub ArrowsLeadOn : Type 0
ArrowsLeadOn = (r : Requests) (n : ℕ) → IsBefore r n (member_before r n)
