-- What is to be known of a group, also of members that have ended. io_uring_enter(2), IOSQE_IO_LINK and IOSQE_IO_DRAIN; which member a fact is told by is our own rule.
use Rattle.std.specs.Prelude.{◌≡◌, ℕ, suc, ◌<◌, ◌≤◌, Bool, true, false, ◌&&◌, nat_le, nat_lt, length, Option, Some, None, if◌then◌else◌}
use Rattle.uring_entry.specs.Below.{least_below}
use Rattle.uring_entry.specs.Preparation.{is_faulty}
use Rattle.uring_entry.specs.Requests.{Requests, entry_of, has_failed, is_last, is_soft, is_drain}

-- The members of a group are the numbers from its first on and below its end; more may follow only after the last request accepted.
pub record IsGroup (r : Requests) (from end : ℕ) : Type 0 where
  pub some : from < end
  pub accepted : end ≤ length r.accepted
  pub begins : (k : ℕ) → suc k ≡ from → is_last r k ≡ true
  pub joined : (k : ℕ) → from ≤ k → suc k < end → is_last r k ≡ false
  pub ends : (k : ℕ) → suc k ≡ end → end < length r.accepted → is_last r k ≡ true

-- the least member of which this holds
unfoldable pub first_member : (ℕ → Bool) → ℕ → ℕ → Option ℕ
first_member p from end = least_below (λ m. nat_le from m && p m) end

-- whether there is such a member before n
abbrev pub is_before : Option ℕ → ℕ → Bool
is_before None n = false
is_before (Some m) n = nat_lt m n

-- the least member with a fault
abbrev pub first_fault : Requests → ℕ → ℕ → Option ℕ
first_fault r from end = first_member (λ m. is_faulty (entry_of r m)) from end

-- the least member that asks to drain
abbrev pub first_drain : Requests → ℕ → ℕ → Option ℕ
first_drain r from end = first_member (λ m. is_drain (entry_of r m)) from end

-- the least member with a soft link that ended without success
abbrev pub first_broken : Requests → ℕ → ℕ → Option ℕ
first_broken r from end = first_member (λ m. is_soft (entry_of r m) && has_failed r m) from end

-- the least of what was found before and n, if this holds of n
abbrev pub earlier_of : Option ℕ → Bool → ℕ → Option ℕ
earlier_of None holds n = if holds then Some n else None
earlier_of (Some m) holds n = if holds && nat_lt n m then Some n else Some m
