-- What a cancel of one request finds. io_uring_enter(2), IORING_OP_ASYNC_CANCEL. Which request it may choose is our own rule.
use Rattle.std.specs.Prelude.{ℕ, not, ◌&&◌, false, Option, Some, None, if◌then◌else◌}
use Rattle.uring_entry.specs.declared.operation.Op.{Op}
use Rattle.uring_entry.specs.declared.operation.Op.TheVariants.{Cancel}
use Rattle.uring_entry.specs.Preparation.{is_faulty, operation_of}
use Rattle.uring_entry.specs.Requests.{Requests, entry_of, is_outstanding, is_running, target_of}
use Rattle.uring_dispatch.specs.declared.answers.CancelFound.{CancelFound}
use Rattle.uring_dispatch.specs.declared.answers.CancelFound.TheVariants.{Nobody, Running, Chosen}

-- what is found, if this is the request that it may choose
abbrev pub found_as : Requests → Option ℕ → CancelFound
found_as r None = Nobody
found_as r (Some m) = if is_running r m then Running m else Chosen m

-- what n is to do, if it is outstanding and without a fault
abbrev pub operation_outstanding : Requests → ℕ → Option Op
operation_outstanding r n =
    if is_outstanding r n && not (is_faulty (entry_of r n)) then Some (operation_of (entry_of r n)) else
    None

-- what n finds, if this is what it is to do
abbrev pub found_for : Requests → ℕ → Option Op → Option CancelFound
found_for r n (Some (Cancel target false)) = Some (found_as r (target_of r n))
found_for r n _ = None

-- what n finds, if it is an outstanding cancel of one request, without a fault
abbrev pub found_by : Requests → ℕ → Option CancelFound
found_by r n = found_for r n (operation_outstanding r n)
