-- How an operation ends on a disk of blocks. Our own rule.
use Rattle.std.specs.Prelude.{◌≡◌, ◌≤◌, ℕ, ℤ, pos, neg_ℤ, ◌⊎◌}
use Rattle.uring_entry.specs.declared.operation.Op.{Op}
use Rattle.uring_entry.specs.declared.operation.Op.TheVariants.{Write}
use Rattle.uring_callers.specs.declared.disk.TheConstants.{EIO}
use Rattle.uring_entry.specs.declared.operation.Outcome.{Outcome}

-- a write of so many blocks failed with EIO, or moved so many blocks, all of them or fewer
abbrev pub IsMoved : ℕ → ℤ → Type 0
IsMoved len res = (res ≡ neg_ℤ EIO) ⊎ ((done : ℕ) × (res ≡ pos done) × (done ≤ len))

abbrev pub IsDiskOutcome : Op → Outcome → Type 0
IsDiskOutcome (Write fd off len bytes) outcome = IsMoved len outcome.res
IsDiskOutcome other outcome = outcome.res ≡ pos 0
