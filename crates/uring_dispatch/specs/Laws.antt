-- What follows from the definitions alone.
use Rattle.std.specs.Prelude.{◌≡◌, ℕ, Bool, true, false, not, ◌⊎◌, Some}
use Rattle.uring_entry.specs.Requests.{Requests, is_running, is_issuable, least_of}
use Rattle.uring_dispatch.specs.declared.answers.Issued.{Issued}
use Rattle.uring_dispatch.specs.declared.answers.Issued.TheVariants.{Run, Ended, NotReady, Running, Unknown}
use Rattle.uring_dispatch.specs.IssueAndFinish.{issued}

-- With something outstanding, the least outstanding request is running or can be issued: nothing waits for ever.
abbrev pub LeastGoesOn : Type 0
LeastGoesOn = (r : Requests) (n : ℕ) → least_of r ≡ Some n
    → (is_running r n ≡ true) ⊎ (is_issuable r n ≡ true)

-- whether an issue was refused, and so changed nothing
abbrev pub is_refusal : Issued → Bool
is_refusal (Run op) = false
is_refusal (Ended res) = false
is_refusal NotReady = true
is_refusal Running = true
is_refusal Unknown = true

-- The requests that can be issued are those whose issue isn't refused.
abbrev pub IssuableIsNotRefused : Type 0
IssuableIsNotRefused = (r : Requests) (n : ℕ) → is_issuable r n ≡ not (is_refusal (issued r n))
