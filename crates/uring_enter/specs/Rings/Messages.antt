-- What a message to another ring does. io_uring_enter(2), IORING_OP_MSG_RING; the order of its faults, and which bits of a field count, is what Linux 6.18 does.
use Rattle.std.specs.Prelude.{◌≡◌, ℕ, ℤ, Bool, true, false, not, ◌&&◌, ◌||◌, ◌==◌, nat_lt, Option, Some, None, if◌then◌else◌}
use Rattle.std.specs.Int.{w32, cast_signed}
use Rattle.std.specs.Int.RustNames.{bit_and}
use Rattle.uring_operations.specs.declared.entries.submission.Submission.{Submission}
use Rattle.uring_enter.specs.declared.rings.message.Receiver.{Receiver}
use Rattle.uring_enter.specs.declared.rings.message.Message.{Message}
use Rattle.uring_enter.specs.declared.rings.message.MessageSteps.{MessageSteps}
use Rattle.uring_enter.specs.declared.rings.message.Sending.{Sending}
use Rattle.uring_enter.specs.declared.rings.message.Sending.TheVariants.{Fails, Posts, Passes}
use Rattle.uring_operations.specs.Entries.Clocks.{has_some}
use Rattle.uring_entry.specs.Errors.{error, is_below}

-- the low 32 bits of a field
abbrev pub low : ℕ → ℕ
low field = bit_and field 4294967295

-- what belongs to files: a slot of the sender's, IORING_MSG_RING_CQE_SKIP (1), and a slot of the other ring's. With IORING_MSG_RING_FLAGS_PASS (2) that field has the completion's flags
abbrev pub names_file : Submission → Bool
names_file e =
    not (low e.addr3 == 0) || has_some e.op_flags 1 || not (e.file_index == 0) && not (has_some e.op_flags 2)

-- IORING_MSG_DATA: -22 (EINVAL) with what belongs to files, -77 (EBADFD) to a ring that is disabled
abbrev pub sending_data : Submission → Receiver → Sending
sending_data e to =
    if names_file e then Fails (error 22) else
    if to.is_disabled then Fails (error 77) else Posts

-- IORING_MSG_SEND_FD: -22 with a length, and to the sender itself
abbrev pub sending_file : Submission → Receiver → Sending
sending_file e to =
    if not (e.len == 0) || to.is_sender then Fails (error 22) else
    if to.is_disabled then Fails (error 77) else Passes

-- with IOSQE_FIXED_FILE (1) a message's entry names a slot, and else a descriptor
abbrev pub is_by_slot : Submission → Bool
is_by_slot e = has_some e.flags 1

-- whether what it names may be a ring: a slot has a registered file, and a ring's can't be registered. io_uring_register(2), IORING_REGISTER_FILES; what Linux 6.18 does
abbrev pub may_be_ring : Submission → Bool
may_be_ring e = not (is_by_slot e)

-- -9 (EBADF) to what isn't open, -77 to what is no ring. DATA is 0 and SEND_FD 1
abbrev pub sending_of : Submission → Receiver → Sending
sending_of e to =
    if not to.is_open then Fails (error 9) else
    if not to.is_ring then Fails (error 77) else
    if low e.addr == 0 then sending_data e to else
    if low e.addr == 1 then sending_file e to else Fails (error 22)

-- the completion of data
abbrev pub message_of : Submission → Message
message_of e = record {
  user_data = e.off;
  res = cast_signed w32 e.len;
  flags = if has_some e.op_flags 2 then e.file_index else 0;
}

-- what the other ring is told: data, or the slot of its file; nothing of what has failed, or with IORING_MSG_RING_CQE_SKIP
abbrev pub told_of : Submission → ℤ → Option Message
told_of e res =
    if is_below res || has_some e.op_flags 1 then None else
    if low e.addr == 0 then Some (message_of e) else
    Some (record { user_data = e.off; res = res; flags = 0 })

pub data MessageStep : Type 0 where
  HasMemory : MessageStep
  FindsFile : MessageStep
  PassesFile : MessageStep
  Tells : MessageStep

-- the place of a step: they are done by rising places, until one fails, with whose fault the message ends
abbrev pub place : MessageStep → ℕ
place HasMemory = 0
place FindsFile = 1
place PassesFile = 2
place Tells = 3

abbrev pub is_done : MessageSteps → MessageStep → Bool
is_done s HasMemory = s.has_memory
is_done s FindsFile = s.finds_file
is_done s PassesFile = s.passes_file
is_done s Tells = s.tells

abbrev pub is_sent : Sending → Bool
is_sent (Fails _) = false
is_sent Posts = true
is_sent Passes = true

abbrev pub passes : Sending → Bool
passes (Fails _) = false
passes Posts = false
passes Passes = true

-- what is done for a message: there is memory for what the other ring is told, so that no file is put into its table of which it can't be told, our own rule; then a file is looked for in the sender's own slot, -9 (EBADF), before the other ring's table is looked at, as Linux does it, and passed; and the other ring is told. Of one that has failed nothing is
abbrev pub message_steps : Sending → MessageSteps
message_steps s = record { has_memory = is_sent s; finds_file = passes s; passes_file = passes s; tells = is_sent s }

-- whether a step that is done comes before another
abbrev pub comes_before : MessageSteps → MessageStep → MessageStep → Bool
comes_before s first second = is_done s first && is_done s second && nat_lt (place first) (place second)

-- where a file is passed, it was found before, there is memory for what the other ring is told of it, and that is told after
abbrev pub PassesWhatCanBeTold : Type 0
PassesWhatCanBeTold = (s : Sending) → is_done (message_steps s) PassesFile ≡ true
    → (comes_before (message_steps s) HasMemory PassesFile ≡ true)
    × (comes_before (message_steps s) FindsFile PassesFile ≡ true)
    × (comes_before (message_steps s) PassesFile Tells ≡ true)
