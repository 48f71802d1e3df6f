-- By what an operation is carried out, and the faults that it can be given, in words that C can read.
use Rattle.std.specs.Prelude.{ℕ, Bool, false, ◌==◌, Option, Some, None, if◌then◌else◌}
use Rattle.uring_operations.specs.declared.calls.system_call.SystemCall.{SystemCall}
use Rattle.uring_operations.specs.declared.requests.fault.Fault.{Fault}
use Rattle.uring_operations.specs.declared.requests.fault.Fault.TheVariants as fault
use Rattle.uring_operations.specs.declared.calls.means.Listed.{Listed}
use Rattle.uring_operations.specs.declared.calls.means.Means.{Means}
use Rattle.uring_operations.specs.declared.calls.means.Means.TheVariants.{Nothing, Transfer, Poll, Call, Opening, Sync, Close, Connect, Splice, Send, Receive, ReceiveMessage, SlotRemoval, FilesPlacing, FilesUpdate, Timeout, LinkedTimeout, Provision, ProvisionRemoval, Message, Cancel, PollRemoval, TimeoutRemoval}
use Rattle.uring_operations.specs.Requests.Faults.{can_have}
use Rattle.uring_operations.specs.Calls.SystemCalls.{of_three}
use Rattle.uring_ffi.specs.declared.operations.calls.call_exports.MeansWords.{MeansWords}

abbrev pub no_list : Listed
no_list = record { address = 0; count = 0 }

abbrev pub words : ℕ → ℕ → SystemCall → MeansWords
words kind slot call = record { kind = kind; slot = slot; listed = no_list; call = call }

-- one that names no slot
abbrev pub by_call : ℕ → SystemCall → MeansWords
by_call kind call = words kind 0 call

-- one that makes no system call: all numbers of that are 0
abbrev pub by_slot : ℕ → ℕ → MeansWords
by_slot kind slot = words kind slot (of_three 0 0 0 0)

-- nor does one that puts files into slots
abbrev pub by_list : ℕ → ℕ → Listed → MeansWords
by_list kind slot listed = record { kind = kind; slot = slot; listed = listed; call = of_three 0 0 0 0 }

abbrev pub bare : ℕ → MeansWords
bare kind = by_slot kind 0

-- kinds count in the order of `Means`, from 0. Our own rule
abbrev pub words_of_means : Means → MeansWords
words_of_means Nothing = bare 0
words_of_means Transfer = bare 1
words_of_means Poll = bare 2
words_of_means (Call call) = by_call 3 call
words_of_means (Opening call slot) = words 4 slot call
words_of_means (Sync call) = by_call 5 call
words_of_means (Close call) = by_call 6 call
words_of_means (Connect call) = by_call 7 call
words_of_means (Splice call) = by_call 8 call
words_of_means (Send call) = by_call 9 call
words_of_means (Receive call) = by_call 10 call
words_of_means (ReceiveMessage call) = by_call 11 call
words_of_means (SlotRemoval slot) = by_slot 12 slot
words_of_means (FilesPlacing listed) = by_list 13 0 listed
words_of_means (FilesUpdate slot listed) = by_list 14 slot listed
words_of_means Timeout = bare 15
words_of_means LinkedTimeout = bare 16
words_of_means Provision = bare 17
words_of_means ProvisionRemoval = bare 18
words_of_means Message = bare 19
words_of_means Cancel = bare 20
words_of_means PollRemoval = bare 21
words_of_means TimeoutRemoval = bare 22

-- faults count in the order of `Fault`, from 1. Our own rule
abbrev pub fault_of_word : ℕ → Option Fault
fault_of_word word =
    if word == 1 then Some fault.Disk else
    if word == 2 then Some fault.Room else
    if word == 3 then Some fault.Short else None

-- there is no other fault to have
abbrev pub can_have_one : ℕ → Bool → ℕ → Option Fault → Bool
can_have_one code is_stream length (Some given) = can_have code is_stream length given
can_have_one code is_stream length None = false
