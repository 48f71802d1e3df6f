-- Requests with other lists, of which the definitions read the same: each reads who started, was doomed by a cancel, ended and failed, and nothing else of them. So cancels choose the same by the manual pages' rules.
use Rattle.std.proofs.Common.{◌≡◌, ℕ, zero, suc, ◌==◌, ℤ, Bool, List, Option, refl, ◌<◌, arith}
use Rattle.uring_laws.proofs.Common.{Ending, HaveSame, Requests, all_below, chosen_by, has_ended, has_failed, has_started, is_after_failure, is_cancelled, is_candidate, is_doomed, is_joined, is_running, is_target, list_any, result_for, some_member, target_of, targets_of}

-- Requests with other lists of who started, was doomed and ended.

abbrev pub listed : Requests → List ℕ → List ℕ → List Ending → Requests
listed r s c e = record r { started = s; cancelled = c; ended = e }

-- lists in which the same is found
pub record AreSame (r : Requests) (s c : List ℕ) (e : List Ending) : Type 0 where
  pub started : HaveSame ℕ r.started s
  pub cancelled : HaveSame ℕ r.cancelled c
  pub ended : HaveSame Ending r.ended e

-- the same numbers have ended
abbrev pub EndSame : Requests → List Ending → Type 0
EndSame r e = (n : ℕ) → list_any (λ x. x.number == n) e ≡ has_ended r n

-- lists of which the definitions read the same
pub record ReadSame (r : Requests) (s c : List ℕ) (e : List Ending) : Type 0 where
  pub started : (n : ℕ) → list_any (λ m. m == n) s ≡ has_started r n
  pub cancelled : (n : ℕ) → list_any (λ m. m == n) c ≡ is_cancelled r n
  pub ended : EndSame r e
  pub failed : (n : ℕ) → has_failed (listed r s c e) n ≡ has_failed r n

pub read_same : (r : Requests) (s c : List ℕ) (e : List Ending) → AreSame r s c e → ReadSame r s c e
read_same r s c e a = grind arith

pub all_below_same : (p q : ℕ → Bool) (n : ℕ) → ((k : ℕ) → k < n → p k ≡ q k) → all_below p n ≡ all_below q n
all_below_same p q zero h = refl
all_below_same p q (suc n) h = grind (arith, (all_below_same p q n (λ k lt. h k (omega (arith, lt)))))

module _ (r : Requests) (s c : List ℕ) (e : List Ending) (a : ReadSame r s c e) where
  abbrev q : Requests
  q = listed r s c e

  pub running_same : (n : ℕ) → is_running q n ≡ is_running r n
  running_same n = simp (a.started, a.ended)

  pub found_same : (o : Option ℕ) → result_for q o ≡ result_for r o
  found_same o = grind arith

  pub chosen_same : (n : ℕ) (res : ℤ) → chosen_by q n res ≡ chosen_by r n res
  unfolding targets_of target_of is_doomed is_after_failure some_member is_joined
  chosen_same n res = simp (a.started, a.cancelled, a.ended, a.failed, is_candidate, is_target)
