-- From where on a thread's signals are blocked in a call. Our own rule: a handler that calls io_uring, or leaves the call by a jump, is to find it as it was before or after it. Where handlers are quiet, which is that none does so, it is to be seen by no result that one came; but by those of calls that sleep, as io_uring_enter(2), EINTR, has it.
use Rattle.std.specs.Prelude.{◌≡◌, ℕ, ℤ, Bool, true, false, not, ◌&&◌, ◌||◌, nat_lt, ◌==◌, List}
use Rattle.std.specs.Ordering.{int_eq}
use Rattle.uring_entry.specs.Errors.{error}
use Rattle.uring_enter.specs.declared.call.asked.Asked.{Asked}
use Rattle.uring_enter.specs.declared.call.command.Command.TheVariants as command
use Rattle.uring_enter.specs.declared.call.reply.Reply.{Reply}
use Rattle.uring_enter.specs.declared.call.signals.Doing.{Doing}
use Rattle.uring_enter.specs.declared.call.signals.Doing.TheVariants.{Looks, LooksUp, AsksNotToWait, CarriesOut}
use Rattle.uring_enter.specs.Call.Due.{due}
use Rattle.uring_enter.specs.Call.Laws.{is_run}

-- a call may sleep that gets events, one at least. io_uring_enter(2), IORING_ENTER_GETEVENTS
abbrev pub may_sleep : (gets : Bool) → ℕ → Bool
may_sleep gets min_complete = gets && nat_lt 0 min_complete

-- as a call begins they are blocked where handlers aren't quiet, or it may sleep: one that comes before it does ends it too
abbrev pub blocks_at_begin : (are_quiet : Bool) → (gets : Bool) → ℕ → Bool
blocks_at_begin are_quiet gets min_complete = not are_quiet || may_sleep gets min_complete

-- whether a signal's handler may end it, so that it comes to less than it would have: poll(2) and select(2), which then end with EINTR though they don't wait, where nothing is ready; open(2), of a file system that has to ask for it; and the calls of operations, but not a read of what is no stream, which is of a file. signal(7)
abbrev pub may_be_ended : Doing → Bool
may_be_ended Looks = true
may_be_ended LooksUp = true
may_be_ended AsksNotToWait = true
may_be_ended (CarriesOut is_read is_stream) = not is_read || is_stream

-- whether a signal may come of it, which is taken back: SIGPIPE and SIGXFSZ, write(2)
abbrev pub may_bring_one : Doing → Bool
may_bring_one Looks = false
may_bring_one LooksUp = false
may_bring_one AsksNotToWait = true
may_bring_one (CarriesOut is_read is_stream) = not is_read

-- whether a handler that comes amid it would find something otherwise than the program left it: a descriptor that isn't to wait
abbrev pub is_seen_amid : Doing → Bool
is_seen_amid AsksNotToWait = true
is_seen_amid _ = false

-- where they are open, they are blocked before any of these
abbrev pub blocks_before : Doing → Bool
blocks_before doing = may_be_ended doing || may_bring_one doing || is_seen_amid doing

-- one that ends with EINTR (4) where signals were open is made once more, since it was a handler of theirs
abbrev pub is_made_again : (was_open : Bool) → ℤ → Bool
is_made_again was_open res = was_open && int_eq res (error 4)

-- a signal that isn't caught ends the process by what it does by itself, as SIGSYS does, unless it is ignored. One that a filter for system calls has raised is ignored by nobody: seccomp(2), SECCOMP_RET_TRAP; signal(7)
abbrev pub ends_process : (is_of_filter : Bool) → (is_caught : Bool) → (is_ignored : Bool) → Bool
ends_process is_of_filter is_caught is_ignored = not is_caught && (is_of_filter || not is_ignored)

-- a signal that isn't caught does nothing by itself: SIGCHLD (17), SIGCONT (18), once the process goes on, SIGURG (23) and SIGWINCH (28). signal(7)
abbrev pub does_nothing : (signal : ℕ) → Bool
does_nothing signal = signal == 17 || signal == 18 || signal == 23 || signal == 28

-- a signal that is ignored, or isn't caught and does nothing, is dropped as it comes to a thread that has it open, and ends no wait. One that waits, since a call has it blocked, is to end none either: so it is taken before the call sleeps
abbrev pub is_dropped : (signal : ℕ) → (is_caught : Bool) → (is_ignored : Bool) → Bool
is_dropped signal is_caught is_ignored = is_ignored || not is_caught && does_nothing signal

-- a call sleeps only where signals are blocked as it begins
abbrev pub SleepsBlocked : Type 0
SleepsBlocked = (are_quiet : Bool) (a : Asked) (log : List Reply) → is_run a log ≡ true
    → due a log ≡ command.Sleep → blocks_at_begin are_quiet a.gets a.min_complete ≡ true

-- nothing is done with signals open but the read of a file
abbrev pub ReadsFilesOpen : Type 0
ReadsFilesOpen = (doing : Doing) → blocks_before doing ≡ false → doing ≡ CarriesOut true false
