-- What can be issued, as the core tells it.
use Rattle.std.proofs.Common.{◌≡◌, ℕ, ◌<◌, Bool, true, ◌&&◌, length, Some, arith}
use Rattle.uring_reconstruct.proofs.Common.{Requests, and_from, and_left, is_issuable, is_outstanding, issuable_from, le-leb, lt-leb, nat_le}
use Rattle.uring_core.proofs.SoundRequests.{outstanding_tells}
use Rattle.uring_entry.proofs.BelowLemmas.{least_below_some}
use Rattle.uring_linux.specs.LinuxRequests.{LinuxRequests}

-- what is outstanding was accepted
pub outstanding_accepted : (r : Requests) (n : ℕ) → is_outstanding r n ≡ true → n < length r.accepted
outstanding_accepted r n is = (outstanding_tells r n is).0

-- so was what can be issued
pub issuable_accepted : (linux : Bool) (l : LinuxRequests) (n : ℕ) → is_issuable linux l n ≡ true
    → n < length l.requests.accepted
issuable_accepted linux l n can = grind arith

-- and is the least from its number on that can be
pub issuable_first : (linux : Bool) (l : LinuxRequests) (n : ℕ) → is_issuable linux l n ≡ true
    → issuable_from linux l n ≡ Some n
issuable_first linux l n can =
    least_below_some (λ k. nat_le n k && is_issuable linux l k) (length l.requests.accepted) n (issuable_accepted linux l n can)
    (and_from _ _ (le-leb n n (omega arith)) can)
    (λ j low. and_left _ _ (lt-leb n j low))
