-- What is copied of what an entry points to when it is submitted, in order, and which faults it has: the first ends the request. io_uring_setup(2), IORING_FEAT_SUBMIT_STABLE; io_uring_enter(2), CQE ERRORS. The order is what the kernel does.
use Rattle.std.specs.Prelude.{ℕ, ℤ, pos, ◌-◌, ◌*◌, ◌%◌, Bool, not, ◌&&◌, ◌||◌, ◌==◌, nat_le, min, Option, Some, None, if◌then◌else◌}
use Rattle.std.specs.Int.RustNames.{bit_and}
use Rattle.uring_operations.specs.declared.entries.submission.Submission.{Submission}
use Rattle.uring_operations.specs.declared.copies.piece.What.{What}
use Rattle.uring_operations.specs.declared.copies.piece.What.TheVariants.{Buffer, Vectors, Path, SecondPath, How, Time, Value, Message, Address, HowRest}
use Rattle.uring_operations.specs.declared.copies.piece.Piece.{Piece}
use Rattle.uring_operations.specs.Entries.Clocks.{has_some}
use Rattle.uring_operations.specs.Files.PipeOpens.{flags_of}
use Rattle.uring_entry.specs.Errors.{error, is_below}

abbrev pub stands : What → ℕ → ℕ → Option Piece
stands what from size = Some (record { what = what; from = from; size = size })

abbrev pub unless : Bool → What → ℕ → ℕ → Option Piece
unless is_none what from size = if is_none then None else stands what from size

-- the one buffer that an entry names itself
abbrev pub buffer_of : Submission → Piece
buffer_of e = record { what = Buffer; from = e.addr; size = e.len }

-- the value of an attribute that is set
abbrev pub value_of : Submission → Option Piece
value_of e = unless (e.len == 0) Value e.off e.len

-- how long the address is that a SEND or a SEND_ZC may name: that stands in 16 bits of `file_index`
abbrev pub address_size : Submission → ℕ
address_size e = bit_and e.file_index 65535

abbrev pub address_of : Submission → Option Piece
address_of e = unless (e.off == 0) Address e.off (address_size e)

-- a path ends within 4,096 bytes, its last one 0, and the name of an attribute within 256. path_resolution(7); xattr(7)
abbrev pub path_at : What → ℕ → Option Piece
path_at what from = stands what from 4096

abbrev pub name_at : ℕ → Option Piece
name_at from = stands SecondPath from 256

-- what is copied first; of one buffer nothing is. A vector has 16 bytes, a message 56, a time 16 and an event of an epoll instance 12; how long an address is a connect and a bind say in 32 bits of `off`
abbrev pub first_of : Submission → Option Piece
first_of e =
    -- READV and WRITEV
    if e.opcode == 1 || e.opcode == 2 then unless (e.len == 0) Vectors e.addr (e.len * 16) else
    -- READ_FIXED, WRITE_FIXED, READ, WRITE, SEND, RECV, SEND_ZC and READ_MULTISHOT
    if e.opcode == 4 || e.opcode == 5 || e.opcode == 22 || e.opcode == 23 || e.opcode == 26 || e.opcode == 27 || e.opcode == 47 || e.opcode == 49 then stands Buffer e.addr e.len else
    -- SENDMSG, RECVMSG and SENDMSG_ZC
    if e.opcode == 9 || e.opcode == 10 || e.opcode == 48 then stands Message e.addr 56 else
    -- TIMEOUT and LINK_TIMEOUT; TIMEOUT_REMOVE, if it is an update
    if e.opcode == 11 || e.opcode == 15 then stands Time e.addr 16 else
    if e.opcode == 12 then unless (e.op_flags == 0) Time e.off 16 else
    -- CONNECT and BIND
    if e.opcode == 16 || e.opcode == 56 then stands Address e.addr (bit_and e.off 4294967295) else
    -- OPENAT2, whose entry says how long its structure is: what is newer there than the 24 bytes that are known
    if e.opcode == 28 then stands HowRest e.off e.len else
    -- OPENAT, STATX, RENAMEAT, UNLINKAT, MKDIRAT, SYMLINKAT and LINKAT
    if e.opcode == 18 || e.opcode == 21 || nat_le 35 e.opcode && nat_le e.opcode 39 then path_at Path e.addr else
    -- EPOLL_CTL, but for EPOLL_CTL_DEL
    if e.opcode == 29 then unless (e.len == 2) Value e.addr 12 else
    -- FSETXATTR, SETXATTR, FGETXATTR and GETXATTR: the attribute's name
    if nat_le 41 e.opcode && nat_le e.opcode 44 then name_at e.addr else None

-- what is copied second
abbrev pub second_of : Submission → Option Piece
second_of e =
    -- OPENAT2: what is known
    if e.opcode == 28 then stands How e.off 24 else
    -- RENAMEAT, SYMLINKAT and LINKAT
    if e.opcode == 35 || e.opcode == 38 || e.opcode == 39 then path_at SecondPath e.off else
    -- FSETXATTR and SETXATTR, if the value has a byte
    if e.opcode == 41 || e.opcode == 42 && not (e.len == 0) then value_of e else
    -- SETXATTR and GETXATTR: the file's path
    if e.opcode == 42 || e.opcode == 44 then path_at Path e.addr3 else
    -- SEND and SEND_ZC
    if e.opcode == 26 || e.opcode == 47 then address_of e else None

-- and third: the path of an OPENAT2, and of a SETXATTR after its value
abbrev pub third_of : Submission → Option Piece
third_of e =
    if e.opcode == 28 then path_at Path e.addr else
    if e.opcode == 42 && not (e.len == 0) then path_at Path e.addr3 else None

abbrev pub piece_of : Submission → ℕ → Option Piece
piece_of e place =
    if place == 0 then first_of e else
    if place == 1 then second_of e else
    if place == 2 then third_of e else None

-- an address of more than 128 bytes is -22 (EINVAL), and an attribute's value of more than 65,536 -7 (E2BIG), before any is copied
abbrev pub fault_by : What → ℕ → ℤ
fault_by Address size = if nat_le size 128 then pos 0 else error 22
fault_by Value size = if nat_le size 65536 then pos 0 else error 7
fault_by _ size = pos 0

abbrev pub fault_of : Piece → ℤ
fault_of p = fault_by p.what p.size

-- a time may not be negative
abbrev pub time_fault : ℤ → ℤ → ℤ
time_fault seconds nanoseconds =
    if is_below seconds || is_below nanoseconds then error 22 else pos 0

-- what is newer than the 24 bytes that are known of a structure of an open has to be 0, else -7. openat2(2), EXTENSIBILITY
abbrev pub how_fault : Bool → ℤ
how_fault is_rest_zero = if is_rest_zero then pos 0 else error 7

-- what a slot has isn't closed by exec: O_CLOEXEC is 2^19. That comes after the path of an OPENAT and an OPENAT2, and is no fault of another entry with a path. `how`: the flags of the structure of an OPENAT2
abbrev pub open_fault : Submission → (how : ℕ) → ℤ
open_fault e how =
    if (e.opcode == 18 || e.opcode == 28) && not (e.file_index == 0) && has_some (flags_of e how) 524288 then error 22 else pos 0

-- a message that is to take a provided buffer (32) and has no vectors has an empty one, which the buffer takes the place of. What Linux 6.18 does
abbrev pub message_vectors : Submission → ℕ → ℕ
message_vectors e vectors = if has_some e.flags 32 && vectors == 0 then 1 else vectors

-- what takes a provided buffer (32) has one vector
abbrev pub selection_fault : Submission → ℕ → ℤ
selection_fault e vectors = if has_some e.flags 32 && not (vectors == 1) then error 22 else pos 0

-- a text is over with its 0, and the rest of a structure with the first byte that isn't 0: whatever stands after that needn't be there. So as many bytes are read at once as stand in a page, which has 4,096 at least. path_resolution(7), openat2(2); our own rule
abbrev pub text_part : (at left : ℕ) → (is_over : Bool) → ℕ
text_part at left is_over = if is_over then 0 else min (4096 - at % 4096) left
