-- Glue. What refusals and faults say.
use Rattle.std.specs.Prelude.{ℕ, List, codes}
use Rattle.uring_entry.specs.declared.bad_setup.BadSetup.{BadSetup}
use Rattle.uring_entry.specs.declared.bad_setup.BadSetup.TheVariants.{BadSq, BadCq, BadFiles}
use Rattle.uring_entry.specs.declared.fault.Fault.{Fault}
use Rattle.uring_entry.specs.declared.fault.Fault.TheVariants.{Flags, Opcode, Ioprio, OpFlags, Reserved, Len, Off}

abbrev pub refusal_text : BadSetup → List ℕ
refusal_text BadSq = codes "the submission ring has 1 to 4096 entries"
refusal_text BadCq =
    codes "the completion ring has 1 to 8192 entries, and not fewer than the submission ring"
refusal_text BadFiles = codes "there are 1 to 64 files"

abbrev pub fault_text : Fault → List ℕ
fault_text Flags = codes "a flag that is not served"
fault_text Opcode = codes "an operation that is not served"
fault_text Ioprio = codes "a priority"
fault_text OpFlags = codes "operation flags that are not served"
fault_text Reserved = codes "reserved bytes that are not zero"
fault_text Len = codes "a length above 64"
fault_text Off = codes "the offset of the file position"
