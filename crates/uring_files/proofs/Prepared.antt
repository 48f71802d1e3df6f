-- What a prepared entry asks of files, whichever operation it is.
-- Stable: other crates may import what is pub.
use Rattle.std.proofs.Common.{◌≡◌, ℤ, ◌≤◌, arith, Bool, true, false, Option, Some, None, if◌then◌else◌}
use Rattle.uring_files.proofs.Common.{IsForFiles, file_asked}
use Rattle.uring_entry.specs.Layout.{Sqe, opcode_of, len_of}
use Rattle.uring_entry.specs.Preparation.{fault_of, operation_of, is_cancel, is_served, is_transfer, is_on_file}
use Rattle.uring_entry.specs.declared.fault.Fault.{Fault}
use Rattle.uring_files.proofs.OperationCases.{most_of}

-- what isn't found isn't the first
not_first : (first : Bool) (fault : Fault) (later : Option Fault)
    → (if first then Some fault else later) ≡ None → (first ≡ false) × (later ≡ None)
not_first first fault later none = grind arith

-- an entry without a fault has an operation that is served
pub is_served_of : (e : Sqe) → fault_of e ≡ None → is_served (opcode_of e) ≡ true
is_served_of e none = grind arith

-- and isn't too long
pub is_short : (e : Sqe) → fault_of e ≡ None → len_of e ≤ 64
is_short e none = grind (arith, not_first)

-- an entry without a fault that is no cancel asks for what can be asked of files
pub prepared : (e : Sqe) → fault_of e ≡ None → is_cancel e ≡ false → IsForFiles (operation_of e)
prepared e none other = grind (arith, is_short)

-- no served operation gives more than what its entry moves, if it moves any
pub moved : (e : Sqe) → is_served (opcode_of e) ≡ true
    → most_of (operation_of e) ≤ (if is_transfer e then len_of e else 0)
moved e served = grind arith

-- a served operation that is on a file is one of an entry that is on one
pub on_some_file : (e : Sqe) (fd : ℤ) → is_served (opcode_of e) ≡ true
    → file_asked (operation_of e) ≡ Some fd → is_on_file e ≡ true
on_some_file e fd served asked = grind arith
