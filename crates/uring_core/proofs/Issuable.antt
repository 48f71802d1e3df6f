-- What can be issued is outstanding, and isn't refused.
-- From the answer that is called for.
-- Stable: other crates may import `issue_goes`, `issued_ends`, `issuable_outstanding` and `next_tells`.
use Rattle.std.proofs.Common.{◌≡◌, ℕ, Option, Some, Bool, true, arith}
use Rattle.uring_core.proofs.Common.{Answer, IsEnded, IsIssued, LinuxRequests, Setup, World, and_parts, is_issuable, is_outstanding, issue_answer, next_answer_of, next_of, not-true, requests_of}
use Rattle.uring_entry.proofs.BelowLemmas.{least_below_tells}
use Rattle.uring_core.specs.declared.answer.Answer.TheVariants as answer

-- what can be issued is not refused: it runs, or ends
pub issue_goes : (g : Setup) (w : World) (n : ℕ) → is_issuable g.linux (requests_of w) n ≡ true
    → IsIssued (issue_answer g w n)
issue_goes g w n issuable = grind (arith, and_parts, not-true)

-- an Issue that isn't refused and doesn't run its request ends it
pub issued_ends : (a : Answer) → IsIssued a → (a ≡ answer.Run → ⊥) → IsEnded a
issued_ends a issued not_run = grind arith

-- what can be issued is outstanding
pub issuable_outstanding : (linux : Bool) (l : LinuxRequests) (n : ℕ)
    → is_issuable linux l n ≡ true → is_outstanding l.requests n ≡ true
issuable_outstanding linux l n issuable = grind (arith, and_parts)

-- the next that was answered
pub next_is : (next : Option ℕ) (n : ℕ) → answer.Next n ≡ next_answer_of next → next ≡ Some n
next_is next n e = grind arith

-- the next can be issued
pub next_tells : (linux : Bool) (l : LinuxRequests) (n : ℕ)
    → answer.Next n ≡ next_answer_of (next_of linux l) → is_issuable linux l n ≡ true
next_tells linux l n e = grind (arith, least_below_tells, next_is)
