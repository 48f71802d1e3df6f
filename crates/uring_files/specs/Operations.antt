-- What the operations do on the files, and how they end. A file's descriptor is its place in the list: our own rule.
use Rattle.std.specs.Prelude.{◌≡◌, ℕ, ℤ, ◌+◌, pos, negsuc, neg_ℤ, Bool, true, false, not, ◌&&◌, ◌≤◌, ◌⊎◌, List, length, take, Option, slice_get, slice_set, slice_index_or, if◌then◌else◌, Some, None}
use Rattle.std.specs.Option.{option_map, option_map_or, option_and_then}
use Rattle.std.specs.Ordering.{int_eq}
use Rattle.uring_entry.specs.Requests.{no_bytes}
use Rattle.uring_entry.specs.declared.errno.TheConstants.{EBADF, ENOMEM, EFBIG}
use Rattle.uring_entry.specs.declared.operation.Op.{Op}
use Rattle.uring_entry.specs.declared.operation.Op.TheVariants.{Nop, Read, Write, Fsync, Cancel}
use Rattle.uring_entry.specs.declared.operation.Outcome.{Outcome}
use Rattle.uring_files.specs.Contents.{FileContents, empty_file, max_len, read_outcome, is_too_long, is_past_end, has_effect, overwritten, written, with_writes_synced}
use Rattle.uring_files.specs.declared.change.Change.{Change}
use Rattle.uring_files.specs.declared.change.Change.TheVariants.{Nothing, Put, Sync}
use Rattle.uring_files.specs.declared.file.FileState.{FileState}

-- the file of a descriptor: none if it is negative, or not below the number of files
abbrev pub file_of : List FileContents → ℤ → Option FileContents
file_of files (pos fd) = slice_get files fd
file_of files (negsuc below) = None

-- the files with that of a descriptor changed, if it has one
abbrev pub with_changed : List FileContents → ℤ → (FileContents → FileContents) → List FileContents
with_changed files (pos fd) change =
    slice_set files fd (change (slice_index_or files fd empty_file))
with_changed files (negsuc below) change = files

-- the descriptor of the file that an operation is on: none of a no-op and a cancel. io_uring_enter(2), at each operation
abbrev pub file_asked : Op → Option ℤ
file_asked (Read fd off len) = Some fd
file_asked (Write fd off len bytes) = Some fd
file_asked (Fsync fd) = Some fd
file_asked other = None

-- what can be asked of files: anything but a cancel, and no transfer of more than 64 bytes
abbrev pub IsForFiles : Op → Type 0
IsForFiles Nop = Unit {0}
IsForFiles (Read fd off len) = len ≤ 64
IsForFiles (Write fd off len bytes) = len ≤ 64
IsForFiles (Fsync fd) = Unit {0}
IsForFiles (Cancel target all) = ⊥

-- an end with this result and no bytes
abbrev pub ended_with : ℤ → Outcome
ended_with res = record { res = res; bytes = no_bytes }

-- an end on a file: EBADF if the descriptor has none. io_uring_enter(2), CQE ERRORS
abbrev pub on_file : Option FileContents → (FileContents → Outcome) → Outcome
on_file file outcome = option_map_or outcome file (ended_with (neg_ℤ EBADF))

-- The outcome that an operation calls for on these files: 0 if it has nothing to do with them. io_uring_enter(2), IORING_OP_NOP, READ, WRITE and FSYNC; EFBIG at the largest size is our own rule
abbrev pub result_of : List FileContents → Op → Outcome
result_of files (Read fd off len) = on_file (file_of files fd) (read_outcome off len)
result_of files (Write fd off len bytes) =
    on_file (file_of files fd) (λ file. ended_with (if is_too_long off len then neg_ℤ EFBIG else pos len))
result_of files (Fsync fd) = on_file (file_of files fd) (λ file. ended_with (pos 0))
result_of files other = ended_with (pos 0)

-- whether the outcome called for is that of a write that makes its file longer
abbrev pub is_lengthening : List FileContents → Op → Bool
is_lengthening files (Write fd off len bytes) =
    option_map_or (λ file. not (is_too_long off len) && is_past_end off len file) (file_of files fd) false
is_lengthening files other = false

-- The outcomes that an operation may have on these files: that called for, and ENOMEM for a write that makes its file longer. Our own rule
abbrev pub IsOutcome : List FileContents → Op → Outcome → Type 0
IsOutcome files op outcome =
    (outcome ≡ result_of files op)
    ⊎ ((is_lengthening files op ≡ true) × (outcome ≡ ended_with (neg_ℤ ENOMEM)))

-- The files after an end of an operation with this result: a write and a sync change their file if they succeeded, and nothing else changes any. io_uring_enter(2), IORING_OP_WRITE and IORING_OP_FSYNC
abbrev pub after : List FileContents → Op → ℤ → List FileContents
after files (Write fd off len bytes) res =
    if int_eq res (pos len) then with_changed files fd (written off (take len bytes)) else files
after files (Fsync fd) res =
    if int_eq res (pos 0) then with_changed files fd with_writes_synced else files
after files other res = files

-- What an operation changes of its file, if that has so many bytes and the operation ends with success: a write that has an effect the bytes under it. io_uring_enter(2), IORING_OP_WRITE and IORING_OP_FSYNC
abbrev pub change_by : Op → ℕ → Change
change_by (Write fd off len bytes) length =
    if has_effect off len then Put fd off len bytes (pos len) else Nothing
change_by (Fsync fd) length = Sync fd
change_by other length = Nothing

-- the bytes that a change leaves of the file that it is on, if the operation ended with this result
abbrev pub bytes_after : Change → ℤ → List ℕ → List ℕ
bytes_after (Put fd off len bytes given) res old =
    if int_eq res given then overwritten old off (take len bytes) else old
bytes_after other res old = old

-- what is put has at most 64 bytes, and doesn't pass the largest size
abbrev pub IsShortPut : Change → Type 0
IsShortPut (Put fd off len bytes given) = (len ≤ 64) × (off + len ≤ max_len)
IsShortPut other = Unit {0}

-- what is told of the file of a descriptor
abbrev pub state_of : List FileContents → ℤ → Option FileState
state_of files fd =
    option_map (λ file. record { len = length file.bytes; writes = file.writes; synced = file.synced }) (file_of files fd)

-- the byte at an offset of the file of a descriptor: none at or past its end
abbrev pub byte_of : List FileContents → ℤ → ℕ → Option ℕ
byte_of files fd at = option_and_then (λ file. slice_get file.bytes at) (file_of files fd)
