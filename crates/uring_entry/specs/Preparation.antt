-- What is wrong with an entry, and what a right one asks for.
use Rattle.std.specs.Prelude.{◌≡◌, ℕ, pos, replicate, false, ◌-◌, ◌^◌, List, [], ◌∷◌, Option, Bool, not, ◌==◌, ◌||◌, ◌&&◌, nat_lt, if◌then◌else◌, is_some, find}
use Rattle.std.specs.List.{list_any}
use Rattle.uring_entry.specs.Layout.{Sqe, opcode_of, ioprio_of, fd_of, off_of, addr_of, len_of, operation_flags_of, reserved_of, payload_of, has_some_of}
use Rattle.uring_entry.specs.Flags.{refused}
use Rattle.uring_entry.specs.declared.fault.Fault.{Fault}
use Rattle.uring_entry.specs.declared.fault.Fault.TheVariants.{Flags, Opcode, Ioprio, OpFlags, Reserved, Len, Off}
use Rattle.uring_entry.specs.declared.operation.Op.{Op}
use Rattle.uring_entry.specs.declared.operation.Fields.{Fields}
use Rattle.uring_entry.specs.declared.operation.Op.TheVariants.{Nop, Read, Write, Fsync, Cancel}
use Rattle.uring_entry.specs.declared.operation.opcode.TheConstants.{NOP, FSYNC, ASYNC_CANCEL, READ, WRITE, ASYNC_CANCEL_ALL}

-- the operation codes, and the flag of a cancel. io_uring_enter(2) and io_uring_prep_cancel(3), with the numbers of enum io_uring_op and of IORING_ASYNC_CANCEL_ALL in <linux/io_uring.h>
pub record AreOperationCodes : Type 0 where
  pub no_op : NOP ≡ 0
  pub sync : FSYNC ≡ 3
  pub cancel : ASYNC_CANCEL ≡ 14
  pub cancel_all : ASYNC_CANCEL_ALL ≡ 1
  pub read : READ ≡ 22
  pub write : WRITE ≡ 23

-- the operations that are served, with the numbers of <linux/io_uring.h>. io_uring_enter(2), IORING_OP_NOP, FSYNC, ASYNC_CANCEL, READ and WRITE; which are served is our own rule
abbrev pub served : List ℕ
served = NOP ∷ FSYNC ∷ ASYNC_CANCEL ∷ READ ∷ WRITE ∷ []

abbrev pub is_served : ℕ → Bool
is_served opcode = list_any (λ code. opcode == code) served

abbrev pub is_read : Sqe → Bool
is_read e = opcode_of e == READ

abbrev pub is_write : Sqe → Bool
is_write e = opcode_of e == WRITE

-- whether the entry moves bytes
abbrev pub is_transfer : Sqe → Bool
is_transfer e = is_read e || is_write e

-- whether the entry's operation is on a file. io_uring_enter(2), at each operation
abbrev pub is_on_file : Sqe → Bool
is_on_file e = is_transfer e || (opcode_of e == FSYNC)

abbrev pub is_cancel : Sqe → Bool
is_cancel e = opcode_of e == ASYNC_CANCEL

-- whether the entry cancels all that it names, by the one flag of an operation that is served. io_uring_prep_cancel(3), IORING_ASYNC_CANCEL_ALL
abbrev pub is_cancel_all : Sqe → Bool
is_cancel_all e = is_cancel e && (operation_flags_of e == ASYNC_CANCEL_ALL)

-- Whether the entry has this fault. io_uring_enter(2), CQE ERRORS, EINVAL, for invalid flags and operations; which they are, and the other faults, are our own rule
abbrev pub has_fault_of : Sqe → Fault → Bool
has_fault_of e Flags = has_some_of refused e
has_fault_of e Opcode = not (is_served (opcode_of e))
has_fault_of e Ioprio = not (ioprio_of e == 0)
has_fault_of e OpFlags = not ((operation_flags_of e == 0) || is_cancel_all e)
has_fault_of e Reserved = list_any (λ word. not (word == 0)) (reserved_of e)
has_fault_of e Len = nat_lt 64 (len_of e)
has_fault_of e Off = is_transfer e && (off_of e == 2 ^ 64 - 1)

-- the order in which faults are told. Our own rule
abbrev pub faults_in_order : List Fault
faults_in_order = Flags ∷ Opcode ∷ Ioprio ∷ OpFlags ∷ Reserved ∷ Len ∷ Off ∷ []

-- the first fault of an entry, if it has one
abbrev pub fault_of : Sqe → Option Fault
fault_of e = find (has_fault_of e) faults_in_order

-- whether an entry has any fault
abbrev pub is_faulty : Sqe → Bool
is_faulty e = is_some (fault_of e)

-- what an entry asks for that has this operation. io_uring_enter(2), at each operation; that a write's bytes stand in the entry is our own rule
abbrev pub operation_named : ℕ → Sqe → Op
operation_named code e =
    if code == NOP then Nop else
    if code == FSYNC then Fsync (fd_of e) else
    if code == ASYNC_CANCEL then Cancel (addr_of e) (is_cancel_all e) else
    if code == READ then Read (fd_of e) (off_of e) (len_of e) else
    Write (fd_of e) (off_of e) (len_of e) (payload_of e)

-- What an entry without a fault asks for.
abbrev pub operation_of : Sqe → Op
operation_of e = operation_named (opcode_of e) e

-- the fields of an operation that has only its code
abbrev pub bare : ℕ → Fields
bare code = record {
  code = code;
  fd = pos 0;
  off = 0;
  target = 0;
  len = 0;
  all = false;
  bytes = replicate 64 0;
}

-- The fields of an entry that tell an operation: one that the operation hasn't is 0. io_uring_enter(2), at each operation
abbrev pub fields_of : Op → Fields
fields_of Nop = bare NOP
fields_of (Read fd off len) = record (bare READ) { fd = fd; off = off; len = len }
fields_of (Write fd off len bytes) =
    record (bare WRITE) { fd = fd; off = off; len = len; bytes = bytes }
fields_of (Fsync fd) = record (bare FSYNC) { fd = fd }
fields_of (Cancel target all) = record (bare ASYNC_CANCEL) { target = target; all = all }
