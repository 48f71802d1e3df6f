-- What is logged of mapped memory. mmap(2), msync(2), lseek(2), proc_pid_maps(5); what Linux 6.18 was seen to do.
use Rattle.std.specs.Prelude.{◌≢◌, ◌≤◌, ◌<◌, List, length, get_or, ℕ, ℤ, pos, negsuc, ◌+◌, ◌-◌, ◌*◌, ◌/◌, ◌^◌, Bool, not, ◌&&◌, ◌||◌, ◌==◌, min, max, nat_lt, int_lt, Option, Some, None, if◌then◌else◌}
use Rattle.std.specs.Ordering.{int_eq}
use Rattle.uring_operations.specs.declared.files.mapped.FilePart.{FilePart}
use Rattle.uring_operations.specs.declared.files.mapped.MappedMemory.{MappedMemory}
use Rattle.uring_operations.specs.Entries.Clocks.{has_some}
use Rattle.uring_entry.specs.Errors.{error, is_below}

-- a result is an address unless it is an error, which has a number up to 4,095. syscall(2)
abbrev pub is_address : ℤ → Bool
is_address res = not (is_below res) || int_lt res (error 4095)

-- a map by which a file is written: PROT_WRITE is 2, and memory that is of no file has MAP_ANONYMOUS, 32. mmap(2)
abbrev pub looks_at_map : (protection flags : ℕ) → (res : ℤ) → Bool
looks_at_map protection flags res =
    is_address res && has_some protection 2 && not (has_some flags 32)

-- what is mapped or synced are whole pages, of 4,096 bytes: those of the last byte too
abbrev pub page_bytes : ℕ → ℕ
page_bytes length = (length + 4095) / 4096 * 4096

abbrev pub whole_pages : ℕ → Option ℕ
whole_pages length = if nat_lt (length + 4095) (2 ^ 64) then Some (page_bytes length) else None

-- two pages differ at a place,
abbrev pub Differs : (before now : List ℕ) → ℕ → Type 0
Differs before now k =
    (k < length before) × (k < length now) × (get_or before k 0 ≢ get_or now k 0)

-- first at this one, or nowhere;
abbrev pub IsFirstChange : (before now : List ℕ) → ℕ → Type 0
IsFirstChange before now first =
    ((k : ℕ) → Differs before now k → first ≤ k)
    × (first < length now → Differs before now first)

-- and last right before this one
abbrev pub IsChangeEnd : (before now : List ℕ) → ℕ → Type 0
IsChangeEnd before now end =
    ((k : ℕ) → Differs before now k → k < end)
    × (0 < end → Differs before now (end - 1))

-- what has changed of a page is what stands from the first place to the last at which it differs from what it was. Our own rule
abbrev pub IsPartChanged : (before now : List ℕ) → FilePart → Type 0
IsPartChanged before now part =
    IsFirstChange before now part.offset × IsChangeEnd before now (part.offset + part.length)
    × (0 < part.length)

abbrev pub IsChange : (before now : List ℕ) → Option FilePart → Type 0
IsChange before now None = (k : ℕ) → Differs before now k → ⊥
IsChange before now (Some part) = IsPartChanged before now part

-- lseek(2) with SEEK_DATA finds the next bytes that a file has, from a place on: they stand in this page. A file of which that can't be asked (-22, EINVAL) is read whole; else an error says that no more are there (-6, ENXIO)
abbrev pub next_mapped_page : (found : ℤ) → (at room : ℕ) → ℕ
next_mapped_page (pos found) at room = found / 4096 * 4096
next_mapped_page (negsuc n) at room = if int_eq (negsuc n) (error 22) then at else room

-- an msync that meets memory which isn't mapped syncs all else, and says -12 (ENOMEM). msync(2), ERRORS
abbrev pub has_synced_memory : ℤ → Bool
has_synced_memory res = int_eq res (pos 0) || int_eq res (error 12)

-- where what is synced ends: no memory is past 2^64 - 1
abbrev pub sync_end : (begin pages : ℕ) → ℕ
sync_end begin pages = min (begin + pages) (2 ^ 64 - 1)

-- the addresses that are synced of a mapping: from the first to that after the last
abbrev pub first_synced : MappedMemory → (begin : ℕ) → ℕ
first_synced m begin = max m.begin begin

abbrev pub last_synced : MappedMemory → (end : ℕ) → ℕ
last_synced m end = min m.end end

-- whether an msync syncs some: of memory that is shared with a file of the run's disk, which has an inode
abbrev pub is_synced : MappedMemory → (begin end : ℕ) → Bool
is_synced m begin end =
    m.is_shared && m.is_on_disk && not (m.file == 0)
    && nat_lt (first_synced m begin) (last_synced m end)

-- and which bytes of the file these are, no offset being past 2^64 - 1
abbrev pub part_of : MappedMemory → (begin end : ℕ) → FilePart
part_of m begin end = record {
  offset = min (m.offset + (first_synced m begin - m.begin)) (2 ^ 64 - 1);
  length = last_synced m end - first_synced m begin;
}

abbrev pub part_within : MappedMemory → (begin end : ℕ) → Option FilePart
part_within m begin end = if is_synced m begin end then Some (part_of m begin end) else None

abbrev pub part_in_pages : MappedMemory → (begin : ℕ) → Option ℕ → Option FilePart
part_in_pages m begin None = None
part_in_pages m begin (Some pages) = part_within m begin (sync_end begin pages)

abbrev pub synced_part : MappedMemory → (begin length : ℕ) → Option FilePart
synced_part m begin length = part_in_pages m begin (whole_pages length)
