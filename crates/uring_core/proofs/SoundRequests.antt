-- What holds of the requests of every lawful history, and stays as one starts.
use Rattle.std.proofs.Common.{◌≡◌, ℕ, ◌==◌, ◌<◌, ◌≤◌, length, Bool, true, false, not, ◌&&◌, count_by, arith, ◌⊎◌}
use Rattle.uring_core.proofs.Common.{Ending, Requests, and_cases, and_parts, doomed_result, entry_of, eqb-true, has_ended, has_started, int_eq, is_doomed, is_faulty, is_joined, is_outstanding, is_ready, is_ready_inside, is_running, list_any, list_any_push, ltb-true, no_request, not-true, or_left, waits_for, with_started}
use Rattle.uring_entry.proofs.EventLemmas.{is_doomed_started, is_joined_started}
use Rattle.uring_core.proofs.ListCounts.{any_new, count_once_more}

-- The invariant.

-- not doomed, and all the earlier members of its group have ended
pub record IsFree (r : Requests) (n : ℕ) : Type 0 where
  pub spared : is_doomed r n ≡ false
  pub first : (k : ℕ) → k < n → is_joined r k n ≡ true → has_ended r k ≡ true

-- whether an end is one of n with another result than a doomed request has
abbrev pub is_otherwise : Requests → ℕ → Ending → Bool
is_otherwise r n e = (e.number == n) && not (int_eq e.res (doomed_result r n))

-- each of its ends has the result of the doomed
abbrev pub EndsDoomed : Requests → ℕ → Type 0
EndsDoomed r n = list_any (is_otherwise r n) r.ended ≡ false

pub record IsSoundRequests (r : Requests) : Type 0 where
  pub started_accepted : (n : ℕ) → has_started r n ≡ true → n < length r.accepted
  pub ended_accepted : (n : ℕ) → has_ended r n ≡ true → n < length r.accepted
  pub starts_once : (n : ℕ) → count_by (λ m. m == n) r.started ≤ 1
  pub ends_once : (n : ℕ) → count_by (λ e. e.number == n) r.ended ≤ 1
  pub cut_at_end : (length r.accepted ≡ 0)
      ⊎ (list_any (λ cut. cut == length r.accepted) r.cuts ≡ true)
  pub started_right : (n : ℕ) → has_started r n ≡ true → is_faulty (entry_of r n) ≡ false

-- and this, by the manual pages' rules
pub record IsSoundManual (r : Requests) : Type 0 where
  pub started_free : (n : ℕ) → has_started r n ≡ true → IsFree r n
  pub ended_how : (n : ℕ) → has_ended r n ≡ true → EndsDoomed r n ⊎ IsFree r n

pub first_requests : IsSoundRequests no_request
first_requests = grind arith

pub first_manual : IsSoundManual no_request
first_manual = grind arith

-- A request starts.

-- what is outstanding is accepted, and hasn't ended
pub outstanding_tells : (r : Requests) (n : ℕ) → is_outstanding r n ≡ true
    → (n < length r.accepted) × (has_ended r n ≡ false)
outstanding_tells r n e = let p = and_parts _ _ e in (ltb-true _ _ p.0, not-true _ p.1)

-- what hasn't ended and isn't running hasn't started
pub idle_tells : (r : Requests) (n : ℕ) → is_running r n ≡ false → has_ended r n ≡ false
    → has_started r n ≡ false
idle_tells r n idle open_end = grind arith

-- what is ready waits for nothing that hasn't ended
pub waited : (r : Requests) (n m : ℕ) → is_ready r n ≡ true → m < n → waits_for r n m ≡ true
    → has_ended r m ≡ true
waited r n m ready lt waits =
    grind (arith, (and_cases (not (has_ended r m)) _ (is_ready_inside r n m ready lt)), (is_ready_inside r n m ready lt))

-- a request that is ready is after no member of its group
pub ready_first : (r : Requests) (n : ℕ) → is_ready r n ≡ true → (k : ℕ) → k < n
    → is_joined r k n ≡ true → has_ended r k ≡ true
ready_first r n ready k lt joined = waited r n k ready lt (or_left _ _ (or_left _ _ joined))

pub start_sound : (r : Requests) (n : ℕ) → is_outstanding r n ≡ true → is_running r n ≡ false
    → is_faulty (entry_of r n) ≡ false → IsSoundRequests r → IsSoundRequests (with_started r n)
start_sound r n outstanding idle right s =
    let within : (m : ℕ) → has_started (with_started r n) m ≡ true → m < length r.accepted =
    λ m e. grind (arith, list_any_push, eqb-true, outstanding_tells) in
    let once : (m : ℕ) → count_by (λ k. k == m) (with_started r n).started ≤ 1 =
    λ m. count_once_more (λ k. k == m) r.started n (s.starts_once m)
    (λ same. grind (arith, eqb-true, outstanding_tells, idle_tells)) in
    let faultless : (m : ℕ) → has_started (with_started r n) m ≡ true → is_faulty (entry_of r m) ≡ false =
    λ m e. grind (arith, list_any_push, eqb-true) in
    assumption (s, within, once, faultless)

pub start_manual : (r : Requests) (n : ℕ) → is_doomed r n ≡ false → is_ready r n ≡ true
    → IsSoundManual r → IsSoundManual (with_started r n)
start_manual r n spared ready s = grind (arith, is_doomed_started, is_joined_started, any_new, eqb-true, ready_first)
