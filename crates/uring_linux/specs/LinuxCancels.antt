-- What a cancel of one request finds, by Linux's rules: one that runs, or nobody.
use Rattle.std.specs.Prelude.{ℕ, false, Option, Some, None}
use Rattle.uring_entry.specs.declared.operation.Op.{Op}
use Rattle.uring_entry.specs.declared.operation.Op.TheVariants.{Cancel}
use Rattle.uring_entry.specs.Requests.{Requests}
use Rattle.uring_dispatch.specs.Cancels.{operation_outstanding}
use Rattle.uring_dispatch.specs.declared.answers.CancelFound.{CancelFound}
use Rattle.uring_dispatch.specs.declared.answers.CancelFound.TheVariants.{Nobody, Running}
use Rattle.uring_linux.specs.LinuxRequests.{found_by}

-- what is told of the request that it finds, or of none
abbrev pub told_as : Option ℕ → CancelFound
told_as None = Nobody
told_as (Some m) = Running m

-- what n finds, if this is what it is to do
abbrev pub told_for : Requests → ℕ → Option Op → Option CancelFound
told_for r n (Some (Cancel target false)) = Some (told_as (found_by r n))
told_for r n _ = None

-- what n finds, if it is an outstanding cancel of one request, without a fault of its own
abbrev pub told_of : Requests → ℕ → Option CancelFound
told_of r n = told_for r n (operation_outstanding r n)
