-- SIGXFSZ, which comes of a call that makes a file longer than a process may have one, and SIGPIPE, of one that writes to what nobody reads. setrlimit(2), RLIMIT_FSIZE; pipe(7). Where in a kernel a worker of its own makes the call, the program gets no signal: what Linux 6.18 was seen to do.
use Rattle.std.specs.Prelude.{ℕ, ℤ, pos, ◌^◌, ◌-◌, Bool, false, not, ◌&&◌, ◌||◌, ◌==◌, Option, Some, None, if◌then◌else◌}
use Rattle.std.specs.Ordering.{int_eq}
use Rattle.uring_operations.specs.declared.entries.submission.Submission.{Submission}
use Rattle.uring_operations.specs.Entries.Clocks.{has_some}
use Rattle.uring_operations.specs.Entries.Needs.{is_write, is_splice}
use Rattle.uring_entry.specs.Errors.{error}

-- a write, FALLOCATE (17), SPLICE (30) or FTRUNCATE (55) may have had one that ends with -27 (EFBIG)
abbrev pub may_signal : Submission → ℤ → Bool
may_signal e res =
    (is_write e.opcode || e.opcode == 17 || e.opcode == 30 || e.opcode == 55) && int_eq res (error 27)

-- a splice or a tee, or a write that a worker makes since IOSQE_ASYNC (16) asks for it, may have had SIGPIPE that ends with -32 (EPIPE). Another write makes its call itself, and its program gets the signal
abbrev pub may_break : Submission → ℤ → Bool
may_break e res =
    (is_splice e.opcode || is_write e.opcode && has_some e.flags 16) && int_eq res (error 32)

-- the number of the signal that is taken back after such an end, as signal(7) has it: SIGXFSZ is 25 and SIGPIPE 13. 0: none is
abbrev pub signal_after : Submission → ℤ → ℕ
signal_after e res = if may_signal e res then 25 else if may_break e res then 13 else 0

-- whether the kernel may send a SIGXFSZ at all, by the greatest length that the process may give a file (getrlimit(2), RLIMIT_FSIZE), if that is known: 2^64 - 1 (RLIM_INFINITY) limits nothing, and -27 is the file system's own then. Where it isn't known nothing is taken back: our own rule
abbrev pub is_limited : Option ℕ → Bool
is_limited (Some bytes) = not (bytes == 2 ^ 64 - 1)
is_limited None = false

-- whether the signal of this number is taken back, where that is the greatest length: of SIGXFSZ (25) that decides it, and any other that there is, SIGPIPE, is taken back whatever it is
abbrev pub is_taken_back : ℕ → Option ℕ → Bool
is_taken_back signal most = if signal == 25 then is_limited most else not (signal == 0)

-- a signal is that of the call if it is told as sent by this process as kill(2) sends it, SI_USER (0). Any other the program was sent, and it stays pending. sigaction(2); what Linux 6.18 was seen to do
abbrev pub is_of_call : (code : ℤ) → (is_own : Bool) → Bool
is_of_call code is_own = int_eq code (pos 0) && is_own
