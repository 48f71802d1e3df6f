-- What an end leaves of other requests, by either's rules: who can start, who is to end as doomed and who posts; and the drains that two ends leave, in either order.
use Rattle.std.proofs.Common.{◌≡◌, ◌≢◌, ℕ, ◌<◌, ℤ, Bool, true, false, ◌||◌, List, length, arith}
use Rattle.uring_laws.proofs.Common.{Deferred, LinuxRequests, Requests, and_from, and_right, both_ways, drains_ended, ends_doomed, false_from_ne_true, faulty_ended, first_of, has_ended, has_ended_other, is_alone, is_doomed, is_failure_before, is_in_some, is_in_turn, is_joined, is_outstanding, is_ready, is_ready_inside, least_below_same, list_any_push, may_start, no_bytes, not-true, not_alone, posts, some_below_none, some_member, still_deferred, still_fewer, with_ended, holds_back, some_below_out}
use Rattle.uring_laws.proofs.LinuxSound.{IsFirst, after_end, failure_end, doom_ended, doom_stays, first_ended, turn_first, after_stays}
use Rattle.uring_laws.proofs.StartedRequests.{CanStart}

-- m has ended
abbrev pub with_end : (linux : Bool) → LinuxRequests → ℕ → ℤ → List ℕ → LinuxRequests
with_end linux l m res bytes =
    record { requests = with_ended l.requests m res bytes; drains = drains_ended linux l m res }

-- By the manual pages' rules.

module _ (r : Requests) (m : ℕ) (res : ℤ) (bytes : List ℕ) (n : ℕ) where
  abbrev q : Requests
  q = with_ended r m res bytes

  doomed_end : (m < n → is_joined r m n ≡ false) → is_doomed q n ≡ is_doomed r n
  unfolding is_doomed some_member is_joined
  doomed_end apart = grind (arith, after_end)

  pub ready_end : is_ready r n ≡ true → is_ready q n ≡ true
  unfolding is_ready some_member is_joined
  ready_end ready = grind (arith, (some_below_none (holds_back q n) n), (some_below_out (holds_back r n) n), list_any_push)

  -- By Linux's rules.

  turn_end : is_in_turn r n ≡ true → is_in_turn q n ≡ true
  unfolding is_in_turn
  turn_end turn = grind (arith, some_below_none, (first_ended r m res bytes n (turn_first r n turn)))

  -- By either's.

  pub outstanding_end : n ≢ m → is_outstanding q n ≡ is_outstanding r n
  outstanding_end differ = grind (arith, has_ended_other)

  -- who is to end as doomed stays so after an end
  pub ends_doomed_stays : (linux : Bool) → ends_doomed linux r n ≡ true → ends_doomed linux q n ≡ true
  unfolding is_doomed some_member is_joined
  ends_doomed_stays linux doomed = grind (arith, and_from, turn_end, doom_stays, after_stays)

  -- whether n posts isn't changed by the end of one that isn't before it in its group
  pub posts_end : (linux : Bool) → (linux ≡ true → IsFirst r n) → has_ended r m ≡ false → (other : ℤ)
      → posts linux q n other ≡ posts linux r n other
  unfolding first_of is_joined
  posts_end linux first still other = grind (arith, (faulty_ended r m res bytes), (least_below_same (is_failure_before q n) (is_failure_before r n) n), (failure_end r m res bytes n))

-- Who can start beside an end.

module _ (l : LinuxRequests) (m : ℕ) (res : ℤ) (bytes : List ℕ) (n : ℕ) (still : has_ended l.requests m ≡ false) where
  -- a request that can start can do so after the end of another, and could before it if it might then
  pub start_past : (linux : Bool) → n ≢ m → CanStart linux l n → CanStart linux (with_end linux l m res bytes) n
  start_past linux differ c =
      grind (arith, outstanding_end, and_right, doom_ended, turn_first, doomed_end, (is_ready_inside l.requests n m), and_from, turn_end, false_from_ne_true, both_ways, not-true, still_fewer, ready_end)

  pub start_ahead : (linux : Bool) → n ≢ m → may_start linux l n ≡ true → CanStart linux (with_end linux l m res bytes) n → CanStart linux l n
  start_ahead linux differ ready c = grind (arith, outstanding_end, turn_end, doom_ended, turn_first, doomed_end, (is_ready_inside l.requests n m))

pub not_ended : (r : Requests) (n : ℕ) → is_outstanding r n ≡ true → has_ended r n ≡ false
not_ended r n out = grind arith

-- The drains that two ends leave.

pub either_order : (x y z : Bool) → ((x || y) || z) ≡ ((x || z) || y)
either_order x y z = grind arith

-- whoever is outstanding and not deferred when another ends keeps the deferred from going on
pub record IsApart (l : LinuxRequests) (n : ℕ) : Type 0 where
  pub accepted : n < length l.requests.accepted
  pub still : has_ended l.requests n ≡ false
  pub free : is_in_some l.drains.deferred n ≡ false

pub unmoved : (alone : Bool) (groups : List Deferred) → alone ≡ false → still_deferred alone groups ≡ groups
unmoved alone groups e = grind arith

none_goes_on : (l : LinuxRequests) (m : ℕ) (res : ℤ) (n : ℕ) → n ≢ m → IsApart l n
    → drains_ended true l m res ≡ l.drains
none_goes_on l m res n differ a = grind (arith, unmoved, (not_alone (with_ended l.requests m res no_bytes) l.drains.deferred n), has_ended_other)

-- it doesn't matter which of two ended first
alone_either : (r : Requests) (m n : ℕ) (x y : ℤ) (xs ys : List ℕ) (groups : List Deferred)
    → is_alone (with_ended (with_ended r m x xs) n y no_bytes) groups ≡ is_alone (with_ended (with_ended r n y ys) m x no_bytes) groups
unfolding is_alone
alone_either r m n x y xs ys groups = simp (list_any_push, either_order)

-- Two that are outstanding and not deferred end: the drains stand the same in either order.
pub drains_either : (linux : Bool) (l : LinuxRequests) (m n : ℕ) (x y : ℤ) (xs ys : List ℕ) → n ≢ m
    → (linux ≡ true → IsApart l m) → (linux ≡ true → IsApart l n)
    → drains_ended linux (with_end linux l m x xs) n y ≡ drains_ended linux (with_end linux l n y ys) m x
drains_either linux l m n x y xs ys differ one two = grind (arith, none_goes_on, alone_either)
