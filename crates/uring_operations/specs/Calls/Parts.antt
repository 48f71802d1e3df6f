-- A message that is moved in parts: what each call carries beside its bytes, whether there is a second, and what has been moved so far. io_uring_enter(2), IORING_OP_SENDMSG and IORING_OP_RECVMSG; recv(2), MSG_WAITALL; what Linux 6.18 was seen to do.
use Rattle.std.specs.Prelude.{ℕ, ℤ, pos, ◌-◌, ◌^◌, min, Bool, not, ◌&&◌, ◌==◌, if◌then◌else◌}
use Rattle.uring_operations.specs.declared.entries.submission.Submission.{Submission}
use Rattle.uring_operations.specs.Entries.Needs.{is_send}
use Rattle.uring_operations.specs.Requests.Readiness.{has_message_flags}

-- control data are sent with the first part alone: so a descriptor is passed once. What is received has the room that its entry gives
abbrev pub control_of : Submission → (control done : ℕ) → ℕ
control_of e control done = if is_send e.opcode && not (done == 0) then 0 else control

-- a RECVMSG (10) with room for control data has one part: a second would write over what came with the first
abbrev pub is_alone : Submission → (control : ℕ) → Bool
is_alone e control = e.opcode == 10 && not (control == 0)

-- what a message has moved as it waits for more, of 31 bits. What else waits has moved nothing
abbrev pub moved_so_far : Submission → (done : ℕ) → ℤ
moved_so_far e done = if has_message_flags e.opcode then pos (min done (2 ^ 31 - 1)) else pos 0
