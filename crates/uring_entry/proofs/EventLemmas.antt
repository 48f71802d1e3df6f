-- What each event leaves as it was, and who it dooms.
use Rattle.std.proofs.Common.{◌≡◌, ℕ, ◌<◌, ◌⊎◌, ℤ, List, length, true, ◌&&◌, Some, refl, arith}
use Rattle.uring_entry.proofs.Common.{Requests, Sqe, and_from, entry_of, has_failed, is_after_failure, is_cancelled, is_candidate, is_doomed, is_draining, is_in_faulty_group, is_joined, is_last, is_soft, some_member, target_of, with_accepted, with_ended, with_started}
use Rattle.uring_entry.proofs.BelowLemmas.{some_below_some, some_below_in, least_below_tells, IsLeast}
use Rattle.uring_entry.proofs.RequestLemmas.{entry_of_accepted_other}

-- What an answer of the definitions tells.

-- m is an earlier member of n's group, has a soft link and failed
pub record IsFailureBefore (r : Requests) (n m : ℕ) : Type 0 where
  pub before : m < n
  pub joined : is_joined r m n ≡ true
  pub soft : is_soft (entry_of r m) ≡ true
  pub failed : has_failed r m ≡ true

pub is_after_failure_from : (r : Requests) (n m : ℕ) → IsFailureBefore r n m
    → is_after_failure r n ≡ true
unfolding is_after_failure
is_after_failure_from r n m f =
    some_below_some (λ k. (is_joined r k n && is_soft (entry_of r k)) && has_failed r k) n m f.before (and_from _ _ (and_from _ _ f.joined f.soft) f.failed)

pub is_after_failure_tells : (r : Requests) (n : ℕ) → is_after_failure r n ≡ true
    → (m : ℕ) × IsFailureBefore r n m
unfolding is_after_failure
is_after_failure_tells r n e = grind (arith, some_below_in)

pub is_doomed_tells : (r : Requests) (n : ℕ) → is_doomed r n ≡ true
    → (is_in_faulty_group r n ≡ true) ⊎ ((is_after_failure r n ≡ true) ⊎ (is_cancelled r n ≡ true))
unfolding is_doomed
is_doomed_tells r n e = grind arith

pub target_of_tells : (r : Requests) (n m : ℕ) → target_of r n ≡ Some m
    → IsLeast (is_candidate r n) (length r.accepted) m
unfolding target_of
target_of_tells r n m e = least_below_tells (is_candidate r n) (length r.accepted) m e

-- A start changes only who is running; an end, only who has ended and failed.

pub is_joined_started : (r : Requests) (n j k : ℕ)
    → is_joined (with_started r n) j k ≡ is_joined r j k
unfolding is_joined
is_joined_started r n j k = refl

pub is_joined_ended : (r : Requests) (n : ℕ) (res : ℤ) (bytes : List ℕ) (j k : ℕ)
    → is_joined (with_ended r n res bytes) j k ≡ is_joined r j k
unfolding is_joined
is_joined_ended r n res bytes j k = refl

pub is_draining_started : (r : Requests) (n k : ℕ)
    → is_draining (with_started r n) k ≡ is_draining r k
unfolding some_member is_joined
is_draining_started r n k = refl

pub is_doomed_started : (r : Requests) (n k : ℕ) → is_doomed (with_started r n) k ≡ is_doomed r k
unfolding is_doomed is_after_failure some_member is_joined
is_doomed_started r n k = refl

-- An entry that is accepted changes nothing among the earlier requests.

pub is_last_accepted : (r : Requests) (entry : Sqe) (k : ℕ) → k < length r.accepted
    → is_last (with_accepted r entry) k ≡ is_last r k
is_last_accepted r entry k lt = grind (arith, entry_of_accepted_other)
