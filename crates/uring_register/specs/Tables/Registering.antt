-- What becomes of the calls of io_uring_register(2) that change a table of registered files or buffers, and of the operations that do: faults, in the kernel's order, and what a row of a list does. io_uring_register(2), IORING_REGISTER_FILES2, IORING_REGISTER_FILES_UPDATE2, IORING_REGISTER_BUFFERS2 and ERRORS; io_uring_enter(2), `file_index` of IORING_OP_OPENAT and IORING_OP_CLOSE.
use Rattle.std.specs.Prelude.{ℕ, ℤ, pos, negsuc, ◌+◌, ◌-◌, ◌^◌, Bool, true, false, not, ◌&&◌, ◌||◌, ◌==◌, nat_lt, nat_le, min, List, if◌then◌else◌}
use Rattle.std.specs.Ordering.{int_eq}
use Rattle.std.specs.Int.RustNames.{bit_or}
use Rattle.uring_register.specs.declared.tables.registering.Row.{Row}
use Rattle.uring_register.specs.declared.tables.registering.Row.TheVariants.{Keeps, Empties, Fills, Refused}
use Rattle.uring_register.specs.Tables.Tables.{Filing, is_registered, size, content}
pub use Rattle.uring_entry.specs.Errors.{error, is_below}

abbrev pub unless_tagged : ℕ → Row → Row
unless_tagged tag row = if tag == 0 then row else Refused (error 22)

-- -1 empties a slot, and -2 (IORING_REGISTER_FILES_SKIP) of an update leaves it: neither has a tag. Another is the descriptor of a file
abbrev pub file_row : ℤ → ℕ → Bool → Row
file_row fd tag is_update =
    if int_eq fd (negsuc 0) then unless_tagged tag Empties else
    if int_eq fd (negsuc 1) && is_update then unless_tagged tag Keeps else Fills

-- a length that is below 0 as a signed one, of 2^63 or more, is -22 (EINVAL), before anything else of the row. No buffer has no bytes and no tag. Another has 1 to 2^30: else -14 (EFAULT). readv(2), ERRORS
abbrev pub buffer_row : ℕ → ℕ → ℕ → Row
buffer_row from bytes tag =
    if nat_le (2 ^ 63) bytes then Refused (error 22) else
    if from == 0 then (if bytes == 0 then unless_tagged tag Empties else Refused (error 14)) else
    if bytes == 0 || nat_lt (2 ^ 30) bytes then Refused (error 14) else Fills

-- what an update does with a slot by a row
pub data Step : Type 0 where
  -- it is emptied, and what it had is gone
  Emptying : Step
  -- the file or buffer that the row names is looked for, and made
  Making : Step
  -- it gets that
  Putting : Step

-- the place of a step among those of one row: they are done by rising places, until one fails
abbrev pub place : Step → ℕ
place Emptying = 0
place Making = 1
place Putting = 2

abbrev pub fills : Row → Bool
fills Fills = true
fills _ = false

-- a slot of a table of files is emptied before the new file is looked for, so it stays empty where there is none; one of buffers keeps what it has until there is another: what Linux 6.18 was seen to do
abbrev pub is_done : Row → (is_of_files : Bool) → Step → Bool
is_done Empties is_of_files Emptying = true
is_done Fills is_of_files Emptying = is_of_files
is_done _ is_of_files Emptying = false
is_done row is_of_files Making = fills row
is_done row is_of_files Putting = fills row

abbrev pub step_bit : Row → (is_of_files : Bool) → Step → ℕ
step_bit row is_of_files step = if is_done row is_of_files step then 2 ^ place step else 0

-- a set of steps: the bit of each is 2 to the power of its place. Our own rule
abbrev pub steps_of : Row → (is_of_files : Bool) → ℕ
steps_of row is_of_files =
    bit_or (bit_or (step_bit row is_of_files Emptying) (step_bit row is_of_files Making)) (step_bit row is_of_files Putting)

-- a call ends at the first row that can't be done: those before it stay so, and it returns how many these are, or the fault if it is the first
abbrev pub updated : ℕ → ℤ → ℤ
updated done fault = if done == 0 then fault else pos (min done (2 ^ 31 - 1))

-- more than 2^20 files, or more than a process may have open, are -24 (EMFILE), more than 2^14 buffers -22
abbrev pub size_fault : ℕ → ℕ → Bool → ℤ
size_fault count limit is_of_files =
    if is_of_files then (if nat_lt (2 ^ 20) count || nat_lt limit count then error 24 else pos 0) else
    if nat_lt (2 ^ 14) count then error 22 else pos 0

-- -16 (EBUSY) of a second table, -22 (EINVAL) of an empty one
abbrev pub registering_fault : List Filing → ℕ → ℕ → Bool → ℤ
registering_fault log count limit is_of_files =
    if is_registered log then error 16 else
    if count == 0 then error 22 else size_fault count limit is_of_files

-- -6 (ENXIO) where there is no table
abbrev pub unregistering_fault : List Filing → Bool → ℤ
unregistering_fault log has_argument =
    if has_argument then error 22 else
    if is_registered log then pos 0 else error 6

-- -75 (EOVERFLOW) of slots that end past 32 bits, also where there is no table, and -22 of those that end past the table: Linux 6.18 was seen to say so
abbrev pub updating_fault : List Filing → ℕ → ℕ → ℤ
updating_fault log from count =
    if nat_le (2 ^ 32) (from + count) then error 75 else
    if not (is_registered log) then error 6 else
    if nat_lt (size log) (from + count) then error 22 else pos 0

-- -9 (EBADF) of a slot that is free
abbrev pub closing_fault : List Filing → ℕ → ℤ
closing_fault log slot =
    if not (is_registered log) then error 6 else
    if nat_le (size log) slot then error 22 else
    if content log slot == 0 then error 9 else pos 0

-- an entry names a slot by one more than its number
abbrev pub naming_fault : List Filing → ℕ → ℤ
naming_fault log index =
    if not (is_registered log) then error 6 else
    if index == 0 || nat_lt (size log) index then error 22 else pos 0
