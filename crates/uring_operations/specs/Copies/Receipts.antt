-- What is told of a message that was received, where, and in which order. recvmsg(2); io_uring_prep_recvmsg_multishot(3).
use Rattle.std.specs.Prelude.{ℕ, ◌-◌, ◌^◌, min, Option, List, [], ◌∷◌, if◌then◌else◌}
use Rattle.uring_operations.specs.declared.copies.received.Received.{Received}
use Rattle.uring_operations.specs.declared.copies.received.Field.{Field}
use Rattle.uring_operations.specs.declared.copies.received.Front.{Front}
use Rattle.uring_operations.specs.Requests.Ways as ways

abbrev pub field_of : (value offset size : ℕ) → Field
field_of value offset size = record { value = value; offset = offset; size = size }

abbrev pub nth : List Field → ℕ → Option Field
nth fields n = ways.nth fields n

-- struct msghdr on x86-64: its flags, of 4 bytes, stand after 48, and how many control data came, of 8 bytes, after 40. Both are told of any message, the flags first: what Linux 6.18 was seen to do
abbrev pub after_name : Received → List Field
after_name r = field_of r.flags 48 4 ∷ field_of r.control_size 40 8 ∷ []

-- how many bytes the address has, of 4 bytes after 8, is told before both, and only where the message names a place for one
abbrev pub told : Received → List Field
told r = if r.has_name then field_of r.name_size 8 4 ∷ after_name r else after_name r

abbrev pub next_told : Received → (after : ℕ) → Option Field
next_told r after = nth (told r) after

-- what stands in front of each message of one that goes on, four words of 32 bits: how many bytes the address has, which may be more than had room, and the control data; how many the message has; and its flags
abbrev pub front_of : Received → (size : ℕ) → Front
front_of r size = record {
  name_size = r.name_size;
  control_size = min r.control_size (2 ^ 32 - 1);
  size = size;
  flags = r.flags;
}
