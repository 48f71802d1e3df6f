-- Which thread may call on a ring, by what was done to it, the newest first. io_uring_setup(2), IORING_SETUP_SINGLE_ISSUER, IORING_SETUP_DEFER_TASKRUN and IORING_SETUP_R_DISABLED; which calls another thread may make is what Linux 6.18 was seen to do.
use Rattle.std.specs.Prelude.{◌≡◌, ℕ, ℤ, pos, Bool, false, not, ◌&&◌, ◌||◌, ◌==◌, nat_lt, List, [], ◌∷◌, Option, Some, None, if◌then◌else◌}
use Rattle.std.specs.Int.RustNames.{bit_and}
use Rattle.uring_register.specs.declared.rings.issuer.Issuer.{Issuer}
pub use Rattle.uring_entry.specs.Errors.{error}

-- a thread is a number
pub data Doing : Type 0 where
  -- it set the ring up, with these flags, and under a strict layer or not
  SetUp : ℕ → ℕ → Bool → Doing
  -- it enabled the ring
  Enabled : ℕ → Doing
  -- it made another call
  Called : ℕ → Doing

abbrev pub flags : List Doing → ℕ
flags [] = 0
flags (SetUp thread given strict ∷ earlier) = given
flags (_ ∷ earlier) = flags earlier

-- a ring has one with DEFER_TASKRUN (2^13), and with SINGLE_ISSUER (2^12) where the layer is strict. Our own rule: Linux has one with SINGLE_ISSUER
abbrev pub has_one : ℕ → Bool → Bool
has_one given strict = not (bit_and given 8192 == 0) || (strict && not (bit_and given 4096 == 0))

abbrev pub wants_one : List Doing → Bool
wants_one [] = false
wants_one (SetUp thread given strict ∷ earlier) = has_one given strict
wants_one (_ ∷ earlier) = wants_one earlier

abbrev pub or_else : Option ℕ → Bool → ℕ → Option ℕ
or_else (Some first) wants thread = Some first
or_else None wants thread = if wants then Some thread else None

-- it is the thread that set the ring up; of a ring that was made disabled (R_DISABLED, 2^6) the first that enabled it
abbrev pub issuer : List Doing → Option ℕ
issuer [] = None
issuer (SetUp thread given strict ∷ earlier) =
    if has_one given strict && bit_and given 64 == 0 then Some thread else None
issuer (Enabled thread ∷ earlier) = or_else (issuer earlier) (wants_one earlier) thread
issuer (Called thread ∷ earlier) = issuer earlier

abbrev pub is_other : Option ℕ → ℕ → Bool
is_other None thread = false
is_other (Some first) thread = not (first == thread)

-- another thread may make no call of io_uring_register(2)
abbrev pub is_of_another : List Doing → ℕ → Bool
is_of_another log thread = is_other (issuer log) thread

-- nor submit, unless the ring has a thread of its own (SQPOLL, 2^1), nor with DEFER_TASKRUN ask for completions (GETEVENTS)
abbrev pub may_not_enter : ℕ → ℕ → Bool → Bool
may_not_enter given to_submit gets =
    (nat_lt 0 to_submit && bit_and given 2 == 0) || (gets && not (bit_and given 8192 == 0))

-- a ring that was made disabled stays so until it is enabled
abbrev pub is_disabled : List Doing → Bool
is_disabled [] = false
is_disabled (SetUp thread given strict ∷ earlier) = not (bit_and given 64 == 0)
is_disabled (Enabled thread ∷ earlier) = false
is_disabled (Called thread ∷ earlier) = is_disabled earlier

-- a call of io_uring_enter(2): -77 (EBADFD) while the ring is disabled, and -17 (EEXIST) of another thread
abbrev pub entering_fault : List Doing → ℕ → ℕ → Bool → ℤ
entering_fault log thread to_submit gets =
    if is_disabled log then error 77 else
    if is_of_another log thread && may_not_enter (flags log) to_submit gets then error 17 else pos 0

-- glue: what is kept of all this
pub record KeepsIssuer (log : List Doing) (i : Issuer) : Type 0 where
  pub flags : i.flags ≡ flags log
  pub disabled : i.is_disabled ≡ is_disabled log
  pub wants_one : i.wants_one ≡ wants_one log
  pub issuer : (if i.has_one then Some i.thread else None) ≡ issuer log
