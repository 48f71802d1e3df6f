-- What follows from the definitions alone.
use Rattle.std.specs.Prelude.{◌≡◌, ℕ, Bool, true, false, not, ◌⊎◌, List, Some, is_some}
use Rattle.uring_entry.specs.Requests.{is_running, least_of, running_in}
use Rattle.uring_dispatch.specs.declared.answers.IssuedPosting.{IssuedPosting}
use Rattle.uring_dispatch.specs.declared.answers.IssuedPosting.TheVariants.{Run, Ended, NotReady, Running, Unknown}
use Rattle.uring_linux.specs.Happenings.{Happening, made_by, MayHaveHappened}
use Rattle.uring_linux.specs.LinuxRequests.{LinuxRequests, is_issuable, next_of}
use Rattle.uring_linux.specs.Issues.{issued}
use Rattle.uring_linux.specs.LinuxWhy.{least_free_of}

-- whether an issue was refused, and so changed nothing
abbrev pub is_refusal : IssuedPosting → Bool
is_refusal (Run op) = false
is_refusal (Ended res posted) = false
is_refusal NotReady = true
is_refusal Running = true
is_refusal Unknown = true

-- The requests that can be issued are those whose issue isn't refused.
abbrev pub IssuableIsNotRefused : Type 0
IssuableIsNotRefused = (l : LinuxRequests) (n : ℕ) → is_issuable l n ≡ not (is_refusal (issued l n))

-- The least outstanding request that isn't deferred: it runs, or can be issued.
pub record GoesOn (l : LinuxRequests) : Type 0 where
  pub number : ℕ
  pub least : least_free_of l ≡ Some number
  pub goes : (is_running l.requests number ≡ true) ⊎ (is_issuable l number ≡ true)

-- With something outstanding, not all of it is deferred, and the least request that isn't runs or can be issued.
abbrev pub LeastFreeGoesOn : Type 0
LeastFreeGoesOn = (happened : List Happening) (n : ℕ) → MayHaveHappened happened
    → least_of (made_by happened).requests ≡ Some n → GoesOn (made_by happened)

-- With something outstanding and nothing running, something can be issued.
abbrev pub SomethingGoesOn : Type 0
SomethingGoesOn = (happened : List Happening) (n : ℕ) → MayHaveHappened happened
    → least_of (made_by happened).requests ≡ Some n → running_in (made_by happened).requests ≡ 0
    → is_some (next_of (made_by happened)) ≡ true
