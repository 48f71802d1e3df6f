-- The sizes that a set-up fixes.
use Rattle.std.specs.Prelude.{◌≡◌, ℕ, ◌*◌, ◌^◌, ◌<◌, ◌≤◌, ◌⊎◌, Bool, false, Option, Some, None, unwrap_or}
use Rattle.std.specs.Int.{IsPowerOfTwo, IsNextPowerOfTwo}

-- A pair of rings and its files: the entries of the submission ring and of the completion ring, the number of files, the index word at which both rings begin, whether a call stops before all its positions are taken, as after an entry with a fault, and whether requests are kept by Linux's rules, as 6.18 was seen to keep them, where they differ from the manual pages'. io_uring_setup(2), sq_entries, cq_entries and IORING_SETUP_SUBMIT_ALL, without which calls stop; the files and the word are our own rule
pub record Setup : Type 0 where
  pub sq : ℕ
  pub cq : ℕ
  pub files : ℕ
  pub start : ℕ
  pub stops : Bool
  pub linux : Bool

-- The limits that every set-up keeps. io_uring_setup(2), IORING_SETUP_CQSIZE, for the powers of two, our own rule for the limits
pub record IsWithinLimits (s : Setup) : Type 0 where
  pub sq_power : IsPowerOfTwo s.sq
  pub sq_limit : s.sq ≤ 4096
  pub cq_power : IsPowerOfTwo s.cq
  pub cq_limit : s.cq ≤ 8192
  pub cq_holds_sq : s.sq ≤ s.cq
  pub some_file : 1 ≤ s.files
  pub files_limit : s.files ≤ 64
  pub word : s.start < 2 ^ 32

-- What is asked for leads to s: at least one entry is asked for each ring, and sizes are rounded up to powers of two; a completion ring that isn't asked for has twice the submission ring's size. io_uring_setup(2), DESCRIPTION and IORING_SETUP_CQSIZE; the doubling is the kernel's, of which the pages don't tell. No call stops, and the rules are the manual pages', unless something else is asked for besides: our own rule
pub record IsSetupFor (sq : ℕ) (cq : Option ℕ) (files start : ℕ) (s : Setup) : Type 0 where
  pub sq_asked : 1 ≤ sq
  pub sq_rounded : IsNextPowerOfTwo sq s.sq
  pub cq_asked : 1 ≤ unwrap_or cq (2 * s.sq)
  pub cq_rounded : IsNextPowerOfTwo (unwrap_or cq (2 * s.sq)) s.cq
  pub files_kept : s.files ≡ files
  pub start_kept : s.start ≡ start
  pub goes_on : s.stops ≡ false
  pub manual : s.linux ≡ false
  pub limits : IsWithinLimits s

-- n doesn't lie from low to high
abbrev pub IsOutside : ℕ → ℕ → ℕ → Type 0
IsOutside low high n = (n < low) ⊎ (high < n)

-- the submission ring that is asked for is out of its limits. io_uring_setup(2), ERRORS, EINVAL
abbrev pub IsBadSq : ℕ → Type 0
IsBadSq sq = IsOutside 1 4096 sq

-- the completion ring that is asked for is out of its limits, or smaller after rounding than the submission ring, which has sq entries after rounding. io_uring_setup(2), IORING_SETUP_CQSIZE and EINVAL; that sizes are compared after rounding, and equal ones taken, is our own rule
abbrev pub IsBadCq : ℕ → Option ℕ → Type 0
IsBadCq sq None = ⊥
IsBadCq sq (Some cq) = IsOutside 1 8192 cq ⊎ ((q : ℕ) → IsNextPowerOfTwo cq q → q < sq)

-- the number of files that is asked for is out of its limits. Our own rule
abbrev pub IsBadFiles : ℕ → Type 0
IsBadFiles files = IsOutside 1 64 files
