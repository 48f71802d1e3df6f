-- What an entry asks for, by its opcode, for the crates above that know cancels alone.
-- Stable: other crates may import `asks_cancel` and `cancel_asked`.
use Rattle.std.proofs.Common.{◌≡◌, ℕ, Bool, true, ap, arith}
use Rattle.uring_entry.proofs.Common.{Sqe, addr_of, eqb-true, is_cancel, is_cancel_all, opcode_of, operation_named, operation_of}
use Rattle.uring_entry.specs.declared.operation.Op.TheVariants.{Cancel}
use Rattle.uring_entry.specs.declared.operation.opcode.TheConstants.{ASYNC_CANCEL}

-- a cancel asks for a cancel
pub asks_cancel : (e : Sqe) → is_cancel e ≡ true
    → operation_of e ≡ Cancel (addr_of e) (is_cancel_all e)
asks_cancel e is = ap (λ o. operation_named o e) (eqb-true (opcode_of e) ASYNC_CANCEL is)

-- and nothing else does
pub cancel_asked : (e : Sqe) (t : ℕ) (all : Bool) → operation_of e ≡ Cancel t all
    → (is_cancel e ≡ true) × (all ≡ is_cancel_all e)
cancel_asked e t all is = grind (arith, opcode_of e, operation_named (opcode_of e) e)
