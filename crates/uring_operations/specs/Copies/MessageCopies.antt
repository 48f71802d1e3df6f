-- What is copied next of a message, after its header, and which fault it has: of the address that is sent first, then of the vectors, then of the room of one that goes on. sendmsg(2) and recvmsg(2); io_uring_enter(2), IORING_RECV_MULTISHOT. The order is what Linux 6.18 does.
use Rattle.std.specs.Prelude.{ℕ, ℤ, pos, ◌+◌, ◌*◌, Bool, not, ◌&&◌, ◌||◌, ◌==◌, min, nat_le, if◌then◌else◌}
use Rattle.uring_operations.specs.declared.entries.submission.Submission.{Submission}
use Rattle.uring_operations.specs.declared.copies.message_copying.Header.{Header}
use Rattle.uring_operations.specs.declared.copies.piece.Piece.{Piece}
use Rattle.uring_operations.specs.declared.copies.piece.What.TheVariants.{Vectors, Address}
use Rattle.uring_operations.specs.declared.copies.copying.Copying.{Copying}
use Rattle.uring_operations.specs.declared.copies.copying.Copying.TheVariants.{Copies, Ends}
use Rattle.uring_operations.specs.Entries.Clocks.{has_some}
use Rattle.uring_entry.specs.Errors.{error, is_below}

-- CONNECT (16) and BIND (56) have no message: their address is copied by itself, as their call takes it. connect(2), bind(2). That of a send stands in its message, sendmsg(2)
abbrev pub is_address_alone : ℕ → Bool
is_address_alone code = code == 16 || code == 56

-- an address whose length is negative in 32 bits is -22 (EINVAL); where the header names none its length counts for nothing
abbrev pub address_fault : Header → ℤ
address_fault h = if not (h.name == 0) && not (nat_le h.name_size 2147483647) then error 22 else pos 0

-- SENDMSG and SENDMSG_ZC send to an address, if there is one
abbrev pub is_addressed : Submission → Header → Bool
is_addressed e h = (e.opcode == 9 || e.opcode == 48) && not (h.name == 0) && not (h.name_size == 0)

-- of which no more counts than a socket's address may have
abbrev pub address_of : Header → Piece
address_of h = record { what = Address; from = h.name; size = min h.name_size 128 }

-- more than 1,024 vectors are -90 (EMSGSIZE); what takes a provided buffer (32) has one at most
abbrev pub count_fault : Submission → Header → ℤ
count_fault e h =
    if not (nat_le h.vector_count 1024) then error 90 else
    if has_some e.flags 32 && not (nat_le h.vector_count 1) then error 22 else pos 0

-- a vector has 16 bytes
abbrev pub vectors_of : Header → Piece
vectors_of h = record { what = Vectors; from = h.vectors; size = h.vector_count * 16 }

-- a RECVMSG that goes on puts 16 bytes, the address and the control data in front of the bytes of each message: -75 (EOVERFLOW) if no number of 31 bits says how many
abbrev pub has_no_room : Header → Bool
has_no_room h = not (nat_le h.name_size 2147483647) || not (nat_le (16 + h.name_size + h.control_size) 2147483647)

abbrev pub room_fault : Submission → Header → ℤ
room_fault e h = if e.opcode == 10 && has_some e.ioprio 2 && has_no_room h then error 75 else pos 0

-- after the address, or where there is none
abbrev pub next_vectors : Submission → Header → Copying
next_vectors e h =
    if is_below (count_fault e h) then Ends (count_fault e h) else
    if h.vector_count == 0 then Ends (room_fault e h) else Copies (vectors_of h)

-- the vectors are copied after so many pieces
abbrev pub before_vectors : Submission → Header → ℕ
before_vectors e h = if is_addressed e h then 1 else 0

-- after so many pieces, of which the last has this fault, or 0
abbrev pub next_of_message : Submission → Header → ℕ → ℤ → Copying
next_of_message e h copied fault =
    if is_below fault then Ends fault else
    if is_below (address_fault h) then Ends (address_fault h) else
    if not (nat_le copied (before_vectors e h)) then Ends (room_fault e h) else
    if copied == before_vectors e h then next_vectors e h else Copies (address_of h)
