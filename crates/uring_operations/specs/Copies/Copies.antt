-- What is copied next of what an entry points to, and which fault the whole of it has: the first of those of its pieces, in their order, and after them all -22 (EINVAL) of a provided buffer for other than one vector, and of a linked timeout that stands where it may not. io_uring_enter(2), CQE ERRORS. The order is what the kernel does.
use Rattle.std.specs.Prelude.{ℕ, ℤ, pos, Bool, not, ◌&&◌, ◌||◌, ◌==◌, Option, Some, None, if◌then◌else◌}
use Rattle.std.specs.Ordering.{int_eq}
use Rattle.uring_operations.specs.declared.entries.submission.Submission.{Submission}
use Rattle.uring_operations.specs.declared.chains.member.Entry.{Entry}
use Rattle.uring_operations.specs.declared.copies.piece.Piece.{Piece}
use Rattle.uring_operations.specs.declared.copies.copying.Copying.{Copying}
use Rattle.uring_operations.specs.declared.copies.copying.Copying.TheVariants.{Copies, Ends}
use Rattle.uring_operations.specs.Chains.Chains.{has_its_place}
use Rattle.uring_operations.specs.Entries.Clocks.{has_some}
use Rattle.uring_entry.specs.Errors.{error, is_below}
use Rattle.uring_operations.specs.Copies.Pieces.{buffer_of, piece_of, fault_of, selection_fault}

-- IOSQE_IO_LINK is 4 and IO_HARDLINK 8; IORING_OP_LINK_TIMEOUT is 15
abbrev pub link_of : Submission → Entry
link_of e = record { links = has_some e.flags 12; is_linked_timeout = e.opcode == 15 }

-- the fault of an entry whose pieces have none
abbrev pub last_fault : Submission → ℕ → Option Entry → ℤ
last_fault e vectors before =
    if is_below (selection_fault e vectors) then selection_fault e vectors else
    if has_its_place (link_of e) before then pos 0 else error 22

-- a piece that is too long isn't copied
abbrev pub unless_too_long : Piece → Copying
unless_too_long p = if is_below (fault_of p) then Ends (fault_of p) else Copies p

abbrev pub piece_or : Option Piece → ℤ → Copying
piece_or (Some p) fault = unless_too_long p
piece_or None fault = Ends fault

-- the fault of an OPENAT2 (28) that is found once its structure was copied, which is two pieces, and before its path: -22 (EINVAL) of a registered buffer, and -9 (EBADF) of a slot (IOSQE_FIXED_FILE, 1); or 0. What Linux 6.18 was seen to do
abbrev pub fault_after_how : Submission → ℕ → ℤ
fault_after_how e copied =
    if not (e.opcode == 28 && copied == 2) then pos 0 else
    if not (e.buf_index == 0) then error 22 else
    if has_some e.flags 1 then error 9 else pos 0

-- after so many pieces, of which the last has this fault, or 0
abbrev pub next_of : Submission → ℕ → ℤ → ℕ → Option Entry → Copying
next_of e copied fault vectors before =
    if is_below fault then Ends fault else
    if is_below (fault_after_how e copied) then Ends (fault_after_how e copied) else
    piece_or (piece_of e copied) (last_fault e vectors before)

-- whether copying what an entry points to came to a fault of its own: an error, but -12 (ENOMEM), which is whoever copies it's, who had no memory for it. Our own rule: a kernel refuses such an entry with -12
abbrev pub is_own_fault : ℤ → Bool
is_own_fault fault = is_below fault && not (int_eq fault (error 12))

-- READ_FIXED, WRITE_FIXED, READ and WRITE have the buffer that they name, and nothing else
abbrev pub one_buffer : Submission → Option Piece
one_buffer e =
    if e.opcode == 4 || e.opcode == 5 || e.opcode == 22 || e.opcode == 23 then Some (buffer_of e) else None

-- how many bytes of a provided buffer a request takes at most: as many as it asks for, if it takes one (IOSQE_BUFFER_SELECT, 32). 0 is all of it. read(2)
abbrev pub wanted_of : Submission → ℕ → ℕ
wanted_of e length = if has_some e.flags 32 then length else 0
