-- Where the parts of a message stand in a buffer, of a receive that goes on. io_uring_prep_recvmsg_multishot(3), struct io_uring_recvmsg_out: 16 bytes, the address, the control data, and the bytes of the message.
use Rattle.std.specs.Prelude.{ℕ, ◌+◌, ◌-◌, ◌^◌, min, nat_le, nat_lt, Option, Some, None, if◌then◌else◌}
use Rattle.std.specs.Int.RustNames.{bit_or}
use Rattle.uring_operations.specs.declared.calls.layout.Layout.{Layout}
use Rattle.uring_operations.specs.declared.entries.submission.Submission.{Submission}
use Rattle.uring_operations.specs.Entries.Needs.{is_send}

-- what stands in front of the bytes, with so much room for an address and for control data
abbrev pub in_front : ℕ → ℕ → ℕ
in_front name control = 16 + name + control

-- how many bytes have room in a buffer of this size; None: not even what stands in front
abbrev pub room_for : ℕ → ℕ → ℕ → Option ℕ
room_for name control size = if nat_le (in_front name control) size then Some (size - in_front name control) else None

-- where each stands: the address after the 16 bytes, the control data after room for the address, and the bytes after room for that. A call is told its sender, and control data, only where there is room for them
abbrev pub layout_by : ℕ → ℕ → Option ℕ → Option Layout
layout_by name control None = None
layout_by name control (Some room) =
    Some (record {
      name = 16;
      control = 16 + name;
      bytes = in_front name control;
      room = room;
      has_name = nat_lt 0 name;
      has_control = nat_lt 0 control;
    })

abbrev pub layout_of : ℕ → ℕ → ℕ → Option Layout
layout_of name control size = layout_by name control (room_for name control size)

-- how much of the buffer has something after a message of so many bytes, which may have been cut to the room that there was: what stands in front, and those that came. No buffer has more than 2^64 - 1
abbrev pub filled : Layout → ℕ → ℕ
filled l came = min (l.bytes + min came l.room) (2 ^ 64 - 1)

-- the flags with which the call of a message is made: the entry's, and none waits, by MSG_DONTWAIT (0x40); and no send ends the program by a signal, by MSG_NOSIGNAL (0x4000). send(2); that it is so of each request is what the kernel does
abbrev pub call_flags : Submission → ℕ
call_flags e = bit_or e.op_flags (if is_send e.opcode then 16448 else 64)
