-- What an operation has of a registered buffer or of one that was provided, and what its completion says of it. io_uring_enter(2), IORING_OP_READ_FIXED, IOSQE_BUFFER_SELECT and IORING_CQE_F_BUFFER.
use Rattle.std.specs.Prelude.{◌≡◌, ℕ, ℤ, pos, false, not, Option, Some, None, ◌+◌, ◌-◌, ◌*◌, ◌^◌, Bool, ◌&&◌, ◌||◌, ◌==◌, nat_le, int_lt, min, if◌then◌else◌}
use Rattle.uring_entry.specs.Errors.{error}
use Rattle.uring_register.specs.declared.buffers.group.Buffer.{Buffer}

-- so many bytes from there on are of the buffer with so many from its start on
abbrev pub is_of_buffer : ℕ → ℕ → ℕ → ℕ → Bool
is_of_buffer start size from count = nat_le start from && nat_le (from + count) (start + size)

-- -14 (EFAULT) of bytes that aren't all the buffer's
abbrev pub bytes_fault : ℕ → ℕ → ℕ → ℕ → ℤ
bytes_fault start size from count = if is_of_buffer start size from count then pos 0 else error 14

-- how much is asked for of a buffer of this length: all, where it is 0
abbrev pub part_of : ℕ → ℕ → ℕ
part_of wanted length = if wanted == 0 then length else min wanted length

-- an operation has taken its buffer if it moved bytes, and also if it takes it for nothing (`takes_for_nothing` of uring_operations)
abbrev pub has_taken : ℤ → (for_nothing : Bool) → Bool
has_taken res for_nothing = int_lt (pos 0) res || for_nothing

-- its completion names the buffer then: IORING_CQE_F_BUFFER is 1, and the buffer's number stands above 16 bits
abbrev pub flags_of : ℤ → Bool → ℕ → ℕ
flags_of res for_nothing id = if has_taken res for_nothing then 1 + id * 2 ^ 16 else 0

-- one that would have to wait has taken its buffer if it moved bytes, and keeps it: what it moves next goes after them. recv(2), MSG_WAITALL; what Linux 6.18 was seen to do
abbrev pub flags_so_far : ℕ → ℕ → ℕ
flags_so_far moved id = flags_of (pos moved) false id

-- which of these two a call's result makes of it
abbrev pub flags_after : (would_wait : Bool) → (moved : ℕ) → ℤ → Bool → ℕ → ℕ
flags_after would_wait moved res for_nothing id =
    if would_wait then flags_so_far moved id else flags_of res for_nothing id

-- where it goes on: after so many bytes of the buffer that it has. None: it has none, and takes the next
abbrev pub further_in : Buffer → (moved : ℕ) → Option Buffer
further_in had moved =
    if moved == 0 then None else
    Some (record { address = had.address + moved; length = had.length - moved; id = had.id })

-- a buffer at address 0 is none to an operation, which ends with -105 (ENOBUFS); it stands in its group all the same. What Linux 6.18 was seen to do
abbrev pub is_none : Buffer → Bool
is_none b = b.address == 0

-- whether the flags name a buffer, so that it is taken out of its group
abbrev pub is_taken : ℕ → Bool
is_taken flags = not (flags == 0)

-- it is exactly if the operation has taken it, by its result
abbrev pub TakesWhatItTells : Type 0
TakesWhatItTells = (res : ℤ) (for_nothing : Bool) (id : ℕ)
    → is_taken (flags_of res for_nothing id) ≡ has_taken res for_nothing
