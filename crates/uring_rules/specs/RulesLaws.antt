-- What follows from the definitions alone.
use Rattle.std.specs.Prelude.{◌≡◌, ℕ, ℤ, pos, neg_ℤ, ◌≤ℤ◌, Bool, true, false, not, ◌⊎◌, List}
use Rattle.uring_entry.specs.declared.errno.TheConstants.{ENOENT, EINVAL, EOPNOTSUPP, EALREADY, ECANCELED}
use Rattle.uring_entry.specs.declared.operation.Op.{Op}
use Rattle.uring_entry.specs.Layout.{Sqe}
use Rattle.uring_entry.specs.Preparation.{is_faulty, is_cancel, is_cancel_all}
use Rattle.uring_entry.specs.Requests.{Requests, entry_of}
use Rattle.uring_linux.specs.LinuxRequests.{LinuxRequests}
use Rattle.uring_dispatch.specs.declared.answers.IssuedPosting.{IssuedPosting}
use Rattle.uring_dispatch.specs.declared.answers.IssuedPosting.TheVariants.{Run, Ended, NotReady, Running, Unknown}
use Rattle.uring_rules.specs.Rules.{is_issuable, doomed_result, cancel_result}
use Rattle.uring_rules.specs.RulesCalls.{all_accepted_by, cut_by, called_by}
use Rattle.uring_rules.specs.RulesIssues.{issued}

-- whether an issue was refused, and so changed nothing
abbrev pub is_refusal : IssuedPosting → Bool
is_refusal (Run op) = false
is_refusal (Ended res posted) = false
is_refusal NotReady = true
is_refusal Running = true
is_refusal Unknown = true

-- By either's rules the requests that can be issued are those whose issue isn't refused.
abbrev pub IssuableIsNotRefused : Type 0
IssuableIsNotRefused = (is_linux : Bool) (l : LinuxRequests) (n : ℕ)
    → is_issuable is_linux l n ≡ not (is_refusal (issued is_linux l n))

-- A call is its entries, accepted one after the other, and its end.
abbrev pub CallIsItsEntries : Type 0
CallIsItsEntries = (is_linux : Bool) (l : LinuxRequests) (entries : List Sqe)
    → cut_by is_linux (all_accepted_by is_linux l entries) ≡ called_by is_linux l entries

-- A request that is started: its entry has no fault, and it is no cancel.
pub record IsPlain (e : Sqe) : Type 0 where
  pub healthy : is_faulty e ≡ false
  pub other : is_cancel e ≡ false

-- What starts has no fault, and is no cancel.
abbrev pub StartsPlain : Type 0
StartsPlain = (is_linux : Bool) (l : LinuxRequests) (n : ℕ) (op : Op) → issued is_linux l n ≡ Run op
    → IsPlain (entry_of l.requests n)

-- the results of doomed requests: EINVAL, EOPNOTSUPP and ECANCELED
abbrev pub IsDoomedResult : ℤ → Type 0
IsDoomedResult res =
    (res ≡ neg_ℤ EINVAL) ⊎ ((res ≡ neg_ℤ EOPNOTSUPP) ⊎ (res ≡ neg_ℤ ECANCELED))

-- A doomed request ends with one of three errors.
abbrev pub DoomedFails : Type 0
DoomedFails = (is_linux : Bool) (r : Requests) (n : ℕ) → IsDoomedResult (doomed_result is_linux r n)

-- the results of a cancel of one request: 0, ENOENT and EALREADY
abbrev pub IsCancelResult : ℤ → Type 0
IsCancelResult res = (res ≡ pos 0) ⊎ ((res ≡ neg_ℤ ENOENT) ⊎ (res ≡ neg_ℤ EALREADY))

-- what a cancel of one and one of all may end with
pub record CancelEnds (is_linux : Bool) (r : Requests) (n : ℕ) : Type 0 where
  pub one : is_cancel_all (entry_of r n) ≡ false → IsCancelResult (cancel_result is_linux r n)
  pub all : is_cancel_all (entry_of r n) ≡ true → pos 0 ≤ℤ cancel_result is_linux r n

-- A cancel of one ends with 0 or one of two errors, and one of all with a number.
abbrev pub CancelsTell : Type 0
CancelsTell = (is_linux : Bool) (r : Requests) (n : ℕ) → CancelEnds is_linux r n
