-- Why memory of a ring isn't mapped as it is asked for: the faults, in the kernel's order. mmap(2), io_uring_setup(2); what Linux 6.18 was seen to do, but where our own rule is named.
use Rattle.std.specs.Prelude.{ℕ, ℤ, ◌-◌, ◌/◌, pos, Bool, true, false, not, ◌&&◌, ◌||◌, ◌==◌, nat_lt, nat_le, Option, Some, None, if◌then◌else◌}
use Rattle.std.specs.Int.RustNames.{bit_and}
use Rattle.uring_enter.specs.declared.rings.mapping.Mapping.{Mapping}
use Rattle.uring_enter.specs.declared.rings.ringing.Region.{Region}
use Rattle.uring_enter.specs.declared.rings.ringing.Region.TheVariants.{Rings, Entries}
use Rattle.uring_operations.specs.Entries.Clocks.{has_some}
use Rattle.uring_enter.specs.Rings.Ringing.{region_of, is_region}
use Rattle.uring_entry.specs.Errors.{error, is_below}

-- MAP_ANONYMOUS (32): no descriptor is looked at
abbrev pub names_descriptor : ℕ → Bool
names_descriptor flags = not (has_some flags 32)

-- its first byte isn't a page's, its pages are huge (MAP_HUGETLB, 262144), or it has no bytes
abbrev pub is_none : Mapping → Bool
is_none m = has_some m.offset 4095 || has_some m.flags 262144 || m.size == 0

-- an address is asked for: as one that counts (MAP_FIXED 16, MAP_FIXED_NOREPLACE 1048576) any but 0, else one after the first page, since it is rounded down to a page's
abbrev pub is_placed : Mapping → Bool
is_placed m = if has_some m.flags 1048592 then not (m.at == 0) else nat_le 4096 m.at

-- -12 (ENOMEM) of more bytes than a program has addresses for, 2^47 less a page. A ring is mapped where the kernel chooses: -22 (EINVAL) of an address. -12 of an offset that names no part
abbrev pub part_fault : Mapping → ℤ
part_fault m =
    if is_none m then error 22 else
    if nat_lt 140737488351232 m.size then error 12 else
    if is_placed m then error 22 else
    if is_region (region_of m.offset) then pos 0 else error 12

-- how it is shared: MAP_SHARED (1), MAP_PRIVATE (2), or MAP_SHARED_VALIDATE (3)
abbrev pub kind : Mapping → ℕ
kind m = bit_and m.flags 15

-- MAP_SHARED_VALIDATE has flags looked at: of those that aren't known each is -95 (EOPNOTSUPP), MAP_SYNC (524288) and MAP_FIXED_NOREPLACE among them
abbrev pub kind_fault : Mapping → ℤ
kind_fault m =
    if kind m == 3 then (if has_some m.flags 2214069760 then error 95 else pos 0) else
    if kind m == 1 || kind m == 2 then pos 0 else error 22

-- -1 (EPERM) of memory whose code is to run, PROT_EXEC (4), and -22 of a stack, MAP_GROWSDOWN (256). -19 (ENODEV) of a private copy that is to be written, PROT_WRITE (2), as of a file that can't be mapped so, is our own rule: the kernel makes one, of which it reads nothing
abbrev pub use_fault : Mapping → ℤ
use_fault m =
    if has_some m.protection 4 then error 1 else
    if has_some m.flags 256 then error 22 else
    if kind m == 2 && has_some m.protection 2 then error 19 else pos 0

abbrev pub is_of_entries : Option Region → Bool
is_of_entries (Some Entries) = true
is_of_entries (Some Rings) = false
is_of_entries None = false

-- the page of the last of so many bytes, from 0
abbrev pub last_page : ℕ → ℕ
last_page bytes = (bytes - 1) / 4096

-- -14 (EFAULT) of fewer pages than the table of entries has, which are put there at once. Of the rings' pages as many are put there as fit. A mapping may be longer than its part
abbrev pub size_fault : (table : ℕ) → Mapping → ℤ
size_fault table m =
    if is_of_entries (region_of m.offset) && nat_lt (last_page m.size) (last_page table) then error 14 else pos 0

-- why nothing is mapped of a ring whose entries take so many bytes, or 0
abbrev pub mapping_fault : (table : ℕ) → Mapping → ℤ
mapping_fault table m =
    if is_below (part_fault m) then part_fault m else
    if is_below (kind_fault m) then kind_fault m else
    if is_below (use_fault m) then use_fault m else size_fault table m

-- which flags say where it is to be: MAP_FIXED (16), MAP_32BIT (64) and MAP_FIXED_NOREPLACE (1048576). The rest change nothing of a ring's memory, which is there already
abbrev pub placing_flags : Mapping → ℕ
placing_flags m = bit_and m.flags 1048656

-- what may be done with it: PROT_READ (1) and PROT_WRITE (2)
abbrev pub protection_of : Mapping → ℕ
protection_of m = bit_and m.protection 3
