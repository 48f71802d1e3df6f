-- Which faults an operation can be given that it didn't meet, so that a test finds what its application does then. Our own rule: those that a disk gives.
use Rattle.std.specs.Prelude.{ℕ, ℤ, Bool, not, ◌&&◌, ◌||◌, ◌==◌, nat_lt, Option, Some, None}
use Rattle.uring_operations.specs.declared.requests.fault.Fault.{Fault}
use Rattle.uring_operations.specs.declared.requests.fault.Fault.TheVariants.{Disk, Room, Short}
use Rattle.uring_operations.specs.Entries.Needs.{is_transfer, is_write}
use Rattle.uring_entry.specs.Errors.{error}

-- what an operation ends with that is given a fault, in the place of being carried out: -5 (EIO), or -28 (ENOSPC). None of a short one: that is made, of fewer bytes
abbrev pub given_result : Fault → Option ℤ
given_result Disk = Some (error 5)
given_result Room = Some (error 28)
given_result Short = None

-- the disk fails (EIO) in transfers, FSYNC (3), FALLOCATE (17) and FTRUNCATE (55), and has no room (ENOSPC) for writes and FALLOCATE. A transfer of more than a byte can be short; but one on a stream may have to wait, and be made again
abbrev pub can_have : ℕ → Bool → ℕ → Fault → Bool
can_have code is_stream length Disk = is_transfer code || code == 3 || code == 17 || code == 55
can_have code is_stream length Room = is_write code || code == 17
can_have code is_stream length Short = is_transfer code && not is_stream && nat_lt 1 length
