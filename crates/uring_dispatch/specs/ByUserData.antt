-- Glue. Between which numbers the requests with the same user data are.
use Rattle.std.specs.Prelude.{◌≡◌, ℕ, ◌+◌, ◌<◌, ◌≤◌, Some, nat_eq}
use Rattle.std.specs.HashMap.{get, spare}
use Rattle.uring_entry.specs.Layout.{user_data_of}
use Rattle.uring_dispatch.specs.declared.request.Request.{Request}
use Rattle.uring_dispatch.specs.declared.by_user_data.ByUserData.{ByUserData}
use Rattle.uring_dispatch.specs.Window.{Window, at, end_of}
use Rattle.uring_dispatch.specs.Noted.{IsBetween}

-- the number below which each can be looked at without more memory
abbrev pub limit_of : ByUserData → ℕ
limit_of x = x.stop + spare x.ends

-- There is memory for the numbers below n.
abbrev pub HasPlaces : ByUserData → ℕ → Type 0
HasPlaces x n = n ≤ limit_of x

-- There is memory for no fewer.
abbrev pub KeepsPlaces : ByUserData → ByUserData → Type 0
KeepsPlaces old new = limit_of old ≤ limit_of new

-- what is noted of the numbers from n on stays
pub record KeepsFrom (old new : ByUserData) (n : ℕ) : Type 0 where
  pub stop : (k : ℕ) → n ≤ k → k < new.stop → k < old.stop
  pub ends : (k named_data : ℕ) → n ≤ k → k < new.stop
      → get nat_eq new.ends named_data ≡ get nat_eq old.ends named_data

-- Each outstanding request that was looked at is between the numbers noted for its user data; and there is memory for those that weren't.
pub record AreFound (w : Window) (x : ByUserData) : Type 0 where
  pub stop : x.stop ≤ end_of w
  pub between : (n : ℕ) (q : Request) → at w n ≡ Some q → n < x.stop
      → IsBetween (get nat_eq x.ends) (user_data_of q.entry) n
  pub places : HasPlaces x (end_of w)

-- each outstanding request with these user data is from one number on and before another
abbrev pub Spans : Window → ℕ → ℕ → ℕ → Type 0
Spans w named_data from to = (n : ℕ) (q : Request) → at w n ≡ Some q → user_data_of q.entry ≡ named_data
    → (from ≤ n) × (n < to)

-- Each outstanding request was, with its entry, or is new.
pub record GoesOn (w v : Window) : Type 0 where
  pub end : end_of w ≤ end_of v
  pub kept : (n : ℕ) (p : Request) → n < end_of w → at v n ≡ Some p
      → (q : Request) × (at w n ≡ Some q) × (p.entry ≡ q.entry)
