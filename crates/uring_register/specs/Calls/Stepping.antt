-- In which steps what is to be registered is read, looked at and made: a set has the bit 2 to the power of its place of each that is done, and they are done by rising places, until one fails, with whose fault it ends. io_uring_register(2), ERRORS; the order of faults is what Linux 6.18 was seen to do.
use Rattle.std.specs.Prelude.{ℕ, ℤ, ◌^◌, Bool, true, not, ◌&&◌, ◌||◌, ◌==◌, nat_lt, if◌then◌else◌}
use Rattle.std.specs.Int.RustNames.{bit_or}
use Rattle.uring_entry.specs.Errors.{is_below}

-- the bit of the step of a place
abbrev pub step_bit : ℕ → (is_done : Bool) → ℕ
step_bit place is_done = if is_done then 2 ^ place else 0

-- of a row the tag is read first, then the descriptor or the vector: -14 (EFAULT) of either. A list that isn't there isn't read, but that of an update or of a placing, which ends so with -14
abbrev pub reading_steps : (has_tags has_list is_update : Bool) → ℕ
reading_steps has_tags has_list is_update = bit_or (step_bit 0 has_tags) (step_bit 1 (has_list || is_update))

-- a tag of 0 is none: nobody is told that what has it is gone. io_uring_register(2), IORING_REGISTER_BUFFERS2
abbrev pub has_tag : ℕ → Bool
has_tag tag = not (tag == 0)

-- of a file that is to be registered it is looked whether its descriptor is open, -9 (EBADF), and then for memory for its tag, -12 (ENOMEM); then of any whether it is a ring's, -9, and last it is copied, -24 (EMFILE). What a request holds was found open
abbrev pub making_steps : (is_registered : Bool) (tag : ℕ) → ℕ
making_steps is_registered tag =
    bit_or (bit_or (bit_or (step_bit 0 is_registered) (step_bit 1 (is_registered && has_tag tag))) (step_bit 2 true)) (step_bit 3 true)

-- of a ring of provided buffers the form is looked at, then its pages, -14, and last there is memory for its group, -12
abbrev pub ring_steps : ℕ
ring_steps = bit_or (bit_or (step_bit 0 true) (step_bit 1 true)) (step_bit 2 true)

-- of a row that names a buffer the pages are looked at, -75 (EOVERFLOW) or -14, and then there is memory for its tag, if it has one, and for it, -12: so no buffer is made whose pages can't be kept. What its row is refused for comes before, as no step is done by one that is refused
abbrev pub buffer_steps : (tag : ℕ) → ℕ
buffer_steps tag = bit_or (bit_or (step_bit 0 true) (step_bit 1 (has_tag tag))) (step_bit 2 true)

-- of a list of restrictions it is looked first whether the ring takes one, and one so long: -77 (EBADFD), -16 (EBUSY) or -22 (EINVAL). Then it is read, -14, if it has rows; and last each of these is taken in turn, -22
abbrev pub restricting_steps : (count : ℕ) → ℕ
restricting_steps count =
    bit_or (bit_or (step_bit 0 true) (step_bit 1 (nat_lt 0 count))) (step_bit 2 true)

-- of a row of rings that lose their numbers each is read, -14, and judged, -22; then the ring loses its number. io_uring_register(2), IORING_UNREGISTER_RING_FDS
abbrev pub dismissing_steps : ℕ
dismissing_steps = bit_or (bit_or (step_bit 0 true) (step_bit 1 true)) (step_bit 2 true)

-- a close with a fault changes nothing. Before another those that were accepted before it keep their files, as they have begun in the kernel; also where it fails then. Our own rule
abbrev pub closing_steps : ℤ → ℕ
closing_steps fault = bit_or (step_bit 0 (not (is_below fault))) (step_bit 1 (not (is_below fault)))
