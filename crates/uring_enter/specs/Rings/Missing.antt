-- With what it ends that something isn't found. io_uring_enter(2), ERRORS; but where the kernel is named.
use Rattle.std.specs.Prelude.{ℤ, pos, Bool, not, if◌then◌else◌}
use Rattle.uring_entry.specs.Errors.{error, is_below}
use Rattle.uring_enter.specs.declared.rings.missing.Missing.{Missing}
use Rattle.uring_enter.specs.declared.rings.missing.Missing.TheVariants as missing

-- -9 (EBADF): a descriptor isn't open, or a slot has no file. -14 (EFAULT): a registered buffer isn't there, or memory can't be read or written; so Linux 6.18 has it too of a buffer without room for what stands in front of a message. -12 (ENOMEM): there is no memory for what is kept of a ring, as what is registered, a message or a sleep; io_uring_setup(2) and io_uring_register(2), ERRORS. -36 (ENAMETOOLONG): a path doesn't end within 4,096 bytes, path_resolution(7). -105 (ENOBUFS): a group has no buffer. -2 (ENOENT): there is no request that an update or a removal names
abbrev pub missing_fault : Missing → ℤ
missing_fault missing.File = error 9
missing_fault missing.Buffer = error 14
missing_fault missing.Memory = error 14
missing_fault missing.PathEnd = error 36
missing_fault missing.OwnMemory = error 12
missing_fault missing.Room = error 14
missing_fault missing.Provided = error 105
missing_fault missing.Request = error 2

-- a file that is named by its slot is found if the slot has one, and one that is named by its number if that is one: a negative number has no file. IOSQE_FIXED_FILE; open(2)
abbrev pub found_fault : (is_of_slot has_file : Bool) → ℤ → ℤ
found_fault is_of_slot has_file fd =
    if (if is_of_slot then has_file else not (is_below fd)) then pos 0 else missing_fault missing.File
