-- Which memory may be registered as a buffer, or as a ring of buffers: its pages stay, and are written. io_uring_register(2), IORING_REGISTER_BUFFERS and IORING_REGISTER_PBUF_RING; what Linux 6.18 was seen to do, but where our own rule is named.
use Rattle.std.specs.Prelude.{ℕ, ℤ, pos, ◌+◌, ◌-◌, ◌^◌, Bool, false, not, ◌&&◌, ◌||◌, ◌==◌, nat_lt, Option, Some, None, if◌then◌else◌}
use Rattle.uring_register.specs.declared.buffers.pinning.Memory.{Memory}
pub use Rattle.uring_entry.specs.Errors.{error}

-- the addresses reach to the end of its last page
abbrev pub has_end : Memory → Bool
has_end m = nat_lt (m.from + m.size + (m.page - 1)) (2 ^ 64)

-- whether one of so many bytes from an address on stands between a start and an end
abbrev pub has_byte_of : (from size start end : ℕ) → Bool
has_byte_of from size start end = nat_lt from end && nat_lt start (from + size)

-- its pages were asked for, to be written, and a page isn't there, or may not be written. Where the kernel can't be asked they are taken to be there, which is our own rule
abbrev pub is_missing : Memory → Bool
is_missing m = m.is_asked && not m.is_there

-- it is shared with a file that the kernel writes back, as such pages may not be written after the file system. Where it isn't known with what it is shared, it is taken to be shared with none, which is our own rule
abbrev pub is_of_a_file : Memory → Bool
is_of_a_file m = m.is_listed && m.is_written_back

-- whether the kernel's list of memory says with which files it is shared: it was read to its end, and one of its lines at least says what it is of. One that doesn't is passed over, as if its memory were shared with no file, and the others hold. Our own rules
abbrev pub is_listed : (is_whole : Bool) → (lines : ℕ) → Bool
is_listed is_whole lines = is_whole && nat_lt 0 lines

-- the fault of registering it, or 0: -75 (EOVERFLOW) if it has no end, -14 (EFAULT) if its pages can't be kept and written
abbrev pub pinning_fault : Memory → ℤ
pinning_fault m =
    if not (has_end m) then error 75 else
    if is_missing m || is_of_a_file m then error 14 else pos 0

-- a file without a device of its own is written back too, but one of a file system that has its files in memory alone: tmpfs (16914836), ramfs (2240043254) and hugetlbfs (2508478710), statfs(2). What has no such system, as a memfd or memory without a name, isn't written back
abbrev pub is_kept_elsewhere : Option ℕ → Bool
is_kept_elsewhere None = false
is_kept_elsewhere (Some kind) = not (kind == 16914836 || kind == 2240043254 || kind == 2508478710)

-- the kernel writes a file back that is shared: if it is a device's, which has a major number, or kept elsewhere than in memory
abbrev pub is_written_back : ℕ → Option ℕ → Bool
is_written_back major kind = not (major == 0) || is_kept_elsewhere kind
