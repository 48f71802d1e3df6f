-- What a cancel or a removal looks for, by its entry, or by the call that makes it, and where the file is looked for that it names. io_uring_enter(2), IORING_OP_ASYNC_CANCEL, IORING_OP_POLL_REMOVE and IORING_OP_TIMEOUT_REMOVE; io_uring_register(2), IORING_REGISTER_SYNC_CANCEL.
use Rattle.std.specs.Prelude.{ℕ, ℤ, pos, Bool, false, not, ◌&&◌, ◌||◌, ◌==◌, if◌then◌else◌}
use Rattle.std.specs.Int.{w32, cast_unsigned}
use Rattle.uring_operations.specs.declared.entries.submission.Submission.{Submission}
use Rattle.uring_enter.specs.declared.cancels.cancel.Sought.{Sought}
use Rattle.uring_enter.specs.declared.cancels.seeking.SoughtFile.{SoughtFile}
use Rattle.uring_enter.specs.declared.cancels.seeking.SoughtFile.TheVariants.{NoFile, OfSlot, OfNumber}
use Rattle.uring_operations.specs.Entries.Clocks.{has_some}
use Rattle.uring_entry.specs.Errors.{error}

-- a removal of a poll (7) is of requests of POLL_ADD (6), one of a timeout (12) of those of TIMEOUT (11)
abbrev pub code_removed : ℕ → ℕ
code_removed code = if code == 7 then 6 else if code == 12 then 11 else 0

-- a removal looks by user data. A cancel (14) does, or as its flags say: IORING_ASYNC_CANCEL_ALL is 1, FD 2, ANY 4 and FD_FIXED 8; IOSQE_FIXED_FILE, 1 of an entry's flags, says the same as the last
abbrev pub sought_of : Submission → Sought
sought_of e =
    let is_cancel = e.opcode == 14 in
    record {
      user_data = e.addr;
      fd = cast_unsigned w32 e.fd;
      code = code_removed e.opcode;
      is_of_operation = not is_cancel;
      is_any = is_cancel && has_some e.op_flags 4;
      is_all = is_cancel && has_some e.op_flags 1;
      is_by_fd = is_cancel && has_some e.op_flags 2;
      is_fixed = is_cancel && (has_some e.op_flags 8 || has_some e.flags 1);
    }

-- a cancel of io_uring_register(2) looks as the entry of a cancel does with the same user data, descriptor and flags: by user data, or as these say
abbrev pub sought_by_call : ℕ → ℤ → ℕ → Sought
sought_by_call user_data fd flags = record {
  user_data = user_data;
  fd = cast_unsigned w32 fd;
  code = 0;
  is_of_operation = false;
  is_any = has_some flags 4;
  is_all = has_some flags 1;
  is_by_fd = has_some flags 2;
  is_fixed = has_some flags 8;
}

-- -9 (EBADF) where it looks by a descriptor that isn't open, or by a slot that has no file; then it looks at nothing. What Linux 6.18 does
abbrev pub seeking_fault : Sought → Bool → ℤ
seeking_fault s is_there = if s.is_by_fd && not is_there then error 9 else pos 0

-- a cancel names a file by IORING_ASYNC_CANCEL_FD, also if it is of any: that of a slot with IORING_ASYNC_CANCEL_FD_FIXED, and else that of a descriptor's number
abbrev pub file_of : Sought → SoughtFile
file_of s = if s.is_by_fd then (if s.is_fixed then OfSlot else OfNumber) else NoFile
