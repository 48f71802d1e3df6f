-- Which rings a thread has by number, by what has happened, the newest first. io_uring_register(2), IORING_REGISTER_RING_FDS and IORING_UNREGISTER_RING_FDS; io_uring_enter(2), IORING_ENTER_REGISTERED_RING. The order of faults is what Linux 6.18 was seen to do.
use Rattle.std.specs.Prelude.{◌≡◌, ℕ, ℤ, pos, ◌+◌, ◌<◌, ◌≤◌, Bool, true, false, not, Option, Some, None, ◌&&◌, ◌||◌, ◌==◌, nat_le, min, length, slice_index_or, List, [], ◌∷◌, if◌then◌else◌}
use Rattle.uring_register.specs.Tables.Tables.{IsFirstFree, NoneIsFree}
use Rattle.uring_register.specs.declared.rings.enrolled.Deed.{Deed}
use Rattle.uring_register.specs.declared.rings.enrolled.Deed.TheVariants.{SetsUp, Calls, Enrolls}
pub use Rattle.uring_entry.specs.Errors.{error, is_below}

-- a thread has 16 rows
pub data Enrolling : Type 0 where
  -- this row got this descriptor
  Enrolled : ℕ → ℕ → Enrolling
  -- this row was emptied
  Dismissed : ℕ → Enrolling

-- what a row holds: one more than a descriptor, or 0 if it is free
abbrev pub content : List Enrolling → ℕ → ℕ
content [] number = 0
content (Enrolled row descriptor ∷ earlier) number = if number == row then descriptor + 1 else content earlier number
content (Dismissed row ∷ earlier) number = if number == row then 0 else content earlier number

-- of a row of a list: -22 (EINVAL) of a reserved field that isn't 0, and of a number past the last row, unless it asks for any (2^32 - 1); -9 (EBADF) if its descriptor isn't open, -95 (EOPNOTSUPP) if it is no ring
abbrev pub enrolling_fault : ℕ → Bool → Bool → Bool → ℤ
enrolling_fault asked reserved is_open is_ring =
    if reserved || (nat_le 16 asked && not (asked == 4294967295)) then error 22 else
    if not is_open then error 9 else
    if not is_ring then error 95 else pos 0

-- it gets the first free row of those that it asks for: of all, or of one
abbrev pub asked_from : ℕ → ℕ
asked_from asked = if asked == 4294967295 then 0 else asked

abbrev pub asked_end : ℕ → ℕ
asked_end asked = if asked == 4294967295 then 16 else min 16 (asked + 1)

abbrev pub IsEnrolledAt : List Enrolling → ℕ → ℕ → Type 0
IsEnrolledAt log asked row = IsFirstFree (content log) (asked_from asked) (asked_end asked) row

-- or none, if each of these holds a ring: -16 (EBUSY)
abbrev pub HasNoRow : List Enrolling → ℕ → Type 0
HasNoRow log asked = NoneIsFree (content log) (asked_from asked) (asked_end asked)

-- a row that is to be emptied says no more than its number
abbrev pub dismissing_fault : ℕ → Bool → Bool → ℤ
dismissing_fault row reserved has_data =
    if reserved || has_data || nat_le 16 row then error 22 else pos 0

-- whether the descriptor of a row is closed as that is emptied, or its thread ends: it is still open on the ring that the row has. Rings count from 0 in their process. A program may have closed the number itself, and have another file there, or another ring. Our own rule: a kernel's rows have no descriptors
abbrev pub closes_row : (of_row : ℕ) → (found : Option ℕ) → Bool
closes_row of_row None = false
closes_row of_row (Some found) = found == of_row

-- whether a thread becomes known to io_uring by what it does: as it makes a ring or gives rings numbers, or as it is asked to submit, whatever is published, but not on a ring whose own thread takes entries (IORING_SETUP_SQPOLL). No other call makes it known, as one that waits, cancels or registers files. What Linux 6.18 was seen to do
abbrev pub makes_known : Deed → Bool
makes_known SetsUp = true
makes_known (Calls to_submit has_thread) = not (to_submit == 0) && not has_thread
makes_known Enrolls = true

-- in which process it is known then, which was so before in that one, 0 if in none
abbrev pub known_after : (before process : ℕ) → Deed → ℕ
known_after before process deed = if makes_known deed then process else before

-- whether it is known in this process. A child's thread isn't by what its parent's did, whose rows it hasn't either. fork(2)
abbrev pub is_known : (before process : ℕ) → Bool
is_known before process = before == process

-- a number past the last row is -22, and so is each number to a thread that isn't known; and one of a free row is -9
abbrev pub naming_fault : List Enrolling → Bool → ℕ → ℤ
naming_fault log known number =
    if not known || nat_le 16 number then error 22 else
    if content log number == 0 then error 9 else pos 0

-- how many rows of a list are taken by which rings lose their numbers: none of a thread that isn't known, so that its call ends with 0 whatever they say
abbrev pub dismissed_rows : Bool → ℕ → ℕ
dismissed_rows known count = if known then count else 0

-- whether the rings that a thread has by number go in this round of its end, of so many in which the destructors of its keys run (pthread_key_create(3), PTHREAD_DESTRUCTOR_ITERATIONS): in the last, since until then those of the program may call by these numbers. In a kernel they go after all of them
abbrev pub go_in_round : (round rounds : ℕ) → Bool
go_in_round round rounds = nat_le rounds round

-- glue: the rows' words after all this
pub record KeepsEnrolled (log : List Enrolling) (rows : List ℕ) : Type 0 where
  pub within : 16 ≤ length rows
  pub words : (number : ℕ) → number < 16 → slice_index_or rows number 0 ≡ content log number
