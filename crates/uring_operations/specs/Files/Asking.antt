-- Of which descriptors it is asked, by the flags of their open files, that a call by them doesn't wait, and what is taken back of that. fcntl(2), F_SETFL, with O_NONBLOCK (2048); a kernel's ring asks its own calls alone, and no file, so the rest is our own rule.
use Rattle.std.specs.Prelude.{◌≡◌, ℕ, ℤ, ◌<◌, ◌^◌, Bool, true, false, not, ◌&&◌, ◌||◌, ◌==◌, nat_lt, nat_le, Option, Some, None, if◌then◌else◌}
use Rattle.std.specs.Ordering.{int_eq}
use Rattle.std.specs.Int.RustNames.{bit_and, bit_or}
use Rattle.uring_operations.specs.declared.files.asking.Locking.{Locking}
use Rattle.uring_operations.specs.declared.files.asking.Locking.TheVariants.{Tries, Yields, Pauses, Holds, GoesWithout}
use Rattle.uring_operations.specs.declared.files.asking.Locked.{Locked}
use Rattle.uring_operations.specs.declared.entries.submission.Submission.{Submission}
use Rattle.uring_operations.specs.Entries.Clocks.{has_some}
use Rattle.uring_operations.specs.Entries.Needs.{is_of_sockets, is_splice}
use Rattle.uring_operations.specs.Requests.Readiness.{has_message_flags}
use Rattle.uring_entry.specs.Errors.{error}

-- of how many descriptors of an operation it is asked while its call is made, which has no flag for that: of the one of ACCEPT (13) and of CONNECT (16), and of both ends of SPLICE (30) and of TEE (33), but of those that need it not. (SPLICE_F_NONBLOCK asks pipes, and these alone.) accept(2), connect(2), splice(2)
abbrev pub asked_descriptors : ℕ → ℕ
asked_descriptors code =
    if code == 13 || code == 16 then 1 else
    if code == 30 || code == 33 then 2 else 0

-- of an end of a splice or a tee it is asked if that is no pipe, which the flag of the call asks (SPLICE_F_NONBLOCK), and no regular file, which never waits, and whose locks the application may have
abbrev pub asks_end : (is_pipe is_regular : Bool) → Bool
asks_end is_pipe is_regular = not is_pipe && not is_regular

-- a pipe's end that is open to read alone (O_RDONLY, 0) is shared with others who ask it so and take that back, and no lock keeps them away, since a file is locked to be written by who can write it. fcntl(2), F_SETLK. So for a call that has no flag it is opened once more, by its name in /proc, not to wait (O_NONBLOCK, 2048), and to be closed in a program that is started (O_CLOEXEC, 524288); nobody else has that. Our own rule
abbrev pub asks_anew : (is_pipe : Bool) → (access : ℕ) → Option ℕ
asks_anew is_pipe access = if is_pipe && access == 0 then Some 526336 else None

-- whether the flags of an open file say that it isn't to wait
abbrev pub says_not_to_wait : ℕ → Bool
says_not_to_wait flags = has_some flags 2048

-- an open file is asked unless it isn't to wait anyway, which is the application's word, or its flags aren't known: it keeps the others
abbrev pub asked_flags : (is_known : Bool) → ℕ → Option ℕ
asked_flags is_known flags =
    if is_known && not (says_not_to_wait flags) then Some (bit_or flags 2048) else None

-- that is taken back, where it was asked, and nobody else has taken it back: the other flags stay as whoever has set them meanwhile
abbrev pub flags_after : (was_asked is_known : Bool) → ℕ → Option ℕ
flags_after was_asked is_known flags =
    if was_asked && is_known && says_not_to_wait flags then Some (bit_and flags 4294965247) else None

-- an open file that was asked has the flags again that it had, where nobody else has changed them; and one that wasn't stays as it is
abbrev pub TakesBackWhatItAsked : Type 0
TakesBackWhatItAsked = (flags asked : ℕ) → flags < 2 ^ 32
    → (asked_flags true flags ≡ Some asked → flags_after true true asked ≡ Some flags)
    × ((is_known : Bool) → flags_after false is_known flags ≡ None)

-- the call of an operation of sockets, of a splice or a tee is asked not to wait: it has the flags of a message, with MSG_DONTWAIT among them (`call_flags`), or its descriptors are asked while it is made. It says no more than that: of two processes that use one descriptor, each may take back what the other has asked of it
abbrev pub CallsNeverSleep : Type 0
CallsNeverSleep = (e : Submission) → is_of_sockets e.opcode || is_splice e.opcode ≡ true
    → has_message_flags e.opcode || nat_lt 0 (asked_descriptors e.opcode) ≡ true

-- several processes that have one open file keep each other from such calls by the lock of a byte that no file has (fcntl(2), F_SETLK). Another has that lock if a try comes to -11 (EAGAIN) or -13 (EACCES). Any other error means that nobody can have it, as by the end of a pipe that can only be read: then the call is made as if it were had
abbrev pub has_lock : ℤ → Bool
has_lock came_to = not (int_eq came_to (error 11) || int_eq came_to (error 13))

-- the lock that layers keep each other out by is of one byte, 2^62. Any other that covers it, as one of a whole file, means something else
abbrev pub is_layers_lock : (start length : ℕ) → Bool
is_layers_lock start length = start == 4611686018427387904 && length == 1

-- it is tried at once, twenty times more after a moment for others, and then after pauses, as often as two thousand times: whoever has it so long has been stopped, maybe. None is tried, and the call is made without, where the application has a lock on that byte, which ours would take off; and none more where another has one that means something else, as that of a whole file
abbrev pub next_of_locking : Locked → Locking
next_of_locking l =
    if l.is_of_application then GoesWithout else
    if l.tries == 0 then Tries else
    if has_lock l.came_to then Holds else
    if l.is_of_others || nat_le 2000 l.tries then GoesWithout else
    if nat_le l.tries 20 then Yields else Pauses
