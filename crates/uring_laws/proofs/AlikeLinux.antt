-- Requests with other lists, of which the definitions read the same, post the same by Linux's rules too.
use Rattle.std.proofs.Common.{◌≡◌, ℕ, ℤ, List}
use Rattle.uring_laws.proofs.Common.{Ending, Requests, breaker_of, first_of, is_failure_before, is_joined, posts_after, is_in_faulty_group}
use Rattle.uring_laws.proofs.AlikeRequests.{ReadSame, listed}

module _ (r : Requests) (s c : List ℕ) (e : List Ending) (a : ReadSame r s c e) where
  abbrev q : Requests
  q = listed r s c e

  pub posts_same : (n : ℕ) (res : ℤ) → posts_after q (breaker_of q n) n res ≡ posts_after r (breaker_of r n) n res
  unfolding is_in_faulty_group first_of is_joined
  posts_same n res = simp (a.failed, posts_after, is_failure_before)
