-- Which descriptors a request may close or register, which call is refused of a ring, and what becomes of a file whose slot can't be told. io_uring_enter(2), IORING_OP_CLOSE and IORING_OP_FILES_UPDATE; what Linux 6.18 was seen to do.
use Rattle.std.specs.Prelude.{ℕ, ℤ, pos, Bool, ◌||◌, ◌==◌, if◌then◌else◌}
use Rattle.uring_register.specs.declared.tables.holding.Telling.{Telling}
use Rattle.uring_register.specs.declared.tables.holding.Telling.TheVariants.{Stays, IsTakenBack}
use Rattle.uring_entry.specs.Errors.{error, is_below}

-- -9 (EBADF) of a number below 0 and of a ring: a ring closes no ring, itself among them, and has none among its files; or 0
abbrev pub holding_fault : ℤ → Bool → ℤ
holding_fault fd is_ring = if is_below fd || is_ring then error 9 else pos 0

-- epoll_ctl(2), by its number on x86-64: a ring's descriptor is no epoll instance to a program (-22, EINVAL), though here it may be one. So the call is made on another that is none, and whichever fault comes first is the kernel's
abbrev pub takes_instance : (number : ℕ) → Bool
takes_instance number = number == 233

-- a file that was put into a slot which can't be told is taken out again
abbrev pub after_telling : Bool → Telling
after_telling is_told = if is_told then Stays else IsTakenBack

-- and the row ends with -14 (EFAULT); else with 0
abbrev pub telling_fault : Bool → ℤ
telling_fault is_told = if is_told then pos 0 else error 14
