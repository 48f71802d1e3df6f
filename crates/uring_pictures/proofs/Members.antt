-- The members of chains that a graph names.
use Rattle.std.proofs.Common.{◌≡◌, ℕ, zero, suc, false, arith}
use Rattle.uring_pictures.proofs.Common.{Requests, both_ways, first_of, is_joined, is_last, is_some, member_before}
use Rattle.uring_entry.proofs.RequestLemmas.{is_joined_yes, is_joined_no, is_joined_inside}
use Rattle.uring_pictures.specs.Members.{IsFirst, IsBefore}

-- a member is joined with the next request as with this one, where the group goes on after it
on : (r : Requests) (m n : ℕ) → is_last r n ≡ false → is_joined r m (suc n) ≡ is_joined r m n
on r m n goes = grind (arith, is_joined_yes, is_joined_inside)

pub first_is : (r : Requests) (n : ℕ) → IsFirst r n (first_of r n)
first_is r zero = grind (arith, is_joined_yes)
first_is r (suc n) = grind (arith, (is_joined_yes r (suc n) (suc n)), is_joined_no, on, (first_is r n))

pub before_is : (r : Requests) (n : ℕ) → IsBefore r n (member_before r n)
before_is r zero = λ k within joined. absurd (omega (arith, within))
before_is r (suc n) = grind (arith, both_ways, is_joined_no, on, (is_joined_yes r n n), is_some, (before_is r n))
