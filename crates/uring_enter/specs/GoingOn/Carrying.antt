-- How an operation is carried out: where its result comes from, by which calls, and what is done with it. io_uring_enter(2), at each operation; but where our own rule is named.
use Rattle.std.specs.Prelude.{ℕ, ℤ, Bool, true, ◌||◌, ◌==◌, ◌-◌, ◌/◌, min, Option, Some, None, if◌then◌else◌}
use Rattle.std.specs.Int.RustNames.{bit_or}
use Rattle.uring_operations.specs.declared.requests.fault.Fault.{Fault}
use Rattle.uring_enter.specs.declared.going_on.carrying.Source.{Source}
use Rattle.uring_enter.specs.declared.going_on.carrying.Source.TheVariants as source
use Rattle.uring_enter.specs.declared.going_on.carrying.Calls.{Calls}
use Rattle.uring_enter.specs.declared.going_on.carrying.Calls.TheVariants.{OfTransfer, OfPoll, InTurn, Once}
use Rattle.uring_operations.specs.Requests.Faults.{given_result}
use Rattle.uring_operations.specs.Entries.Needs.{is_transfer, is_poll, is_of_sockets, is_splice}
use Rattle.uring_enter.specs.Completions.Storing.{step_bit}
use Rattle.uring_entry.specs.Errors.{is_below}

-- a fault that is given is the result, in the place of any call; a short one is that of calls of half of its bytes. Our own rule
abbrev pub by_result : Option ℤ → Source
by_result (Some res) = source.Fault res
by_result None = source.HalfOfCalls

abbrev pub of_fault : Fault → Source
of_fault fault = by_result (given_result fault)

abbrev pub unless_given : Option Fault → Source
unless_given None = source.Calls
unless_given (Some fault) = of_fault fault

-- what failed of it as it started ends it before anything of it is done. A no-op (0) makes no call, and so is given no fault; any other that is given one makes none either, or a shorter one
abbrev pub source_of : ℕ → ℤ → Option Fault → Source
source_of code started given =
    if is_below started then source.Start else
    if code == 0 then source.Entry else unless_given given

-- a short fault leaves the first half of the bytes, rounded down, in whichever vectors they stand: of one after so many others, those that are left of the half there. Our own rule
abbrev pub half_in : (all before length : ℕ) → ℕ
half_in all before length = min length (all / 2 - before)

-- what it cuts of a provided buffer isn't used again: the buffer counts as so much shorter from then on, where a call goes on in a part of it and makes half of `all` there. Our own rule
abbrev pub left_of_buffer : (length all part : ℕ) → ℕ
left_of_buffer length all part = length - (part - half_in all 0 part)

-- a transfer is made by its calls, and a poll by a look; what goes by sockets and a splice or a tee by calls that aren't to wait and looks in turn, since it may have to wait for its descriptor; any other by one call, or what whoever keeps the ring does itself
abbrev pub calls_of : ℕ → Calls
calls_of code =
    if is_transfer code then OfTransfer else
    if is_poll code then OfPoll else
    if is_of_sockets code || is_splice code then InTurn else Once

-- what is done with the result of a request that was carried out, or that a cancel has found: a set has the bit 2 to the power of its place of each step that is done, and they are done by rising places. A link after a send without copies goes by what the send has come to, and not by the notice that its memory is free: so success is judged before that takes its place. The notice comes before the end, of which the core is told before anything is made of it. io_uring_enter(2), IORING_OP_SEND_ZC and IOSQE_IO_LINK; else our own rule
abbrev pub finish_steps : (is_zero_copy : Bool) → ℕ
finish_steps is_zero_copy =
    bit_or (bit_or (bit_or (step_bit 0 true) (step_bit 1 is_zero_copy)) (step_bit 2 true)) (step_bit 3 true)
