-- What follows from the definitions of files and their operations.
use Rattle.std.specs.Prelude.{◌≡◌, ℕ, ℤ, negsuc, Bool, true, false, Option, Some, None, ◌+◌, ◌-◌, ◌≤◌, ◌⊎◌, ◌&&◌, nat_le, nat_lt, max, List, length, slice_index, if◌then◌else◌}
use Rattle.uring_files.specs.Contents.{FileContents, overwritten, written, bytes_at}
use Rattle.std.specs.Option.{option_map_or}
use Rattle.std.specs.Ordering.{int_eq}
use Rattle.uring_entry.specs.declared.operation.Op.{Op}
use Rattle.uring_entry.specs.declared.operation.Outcome.{Outcome}
use Rattle.uring_files.specs.declared.change.Change.{Change}
use Rattle.uring_files.specs.declared.change.Change.TheVariants.{Nothing, Put, Sync}
use Rattle.uring_files.specs.Operations.{file_asked, file_of, result_of, is_lengthening, after, change_by, bytes_after, IsOutcome}

-- Bytes that were written over: each offset under the write has the new byte, and each other the old one. Past the end of the old bytes each counts as 0
pub record IsWrittenOver (old new : List ℕ) (off : ℕ) (now : List ℕ) : Type 0 where
  pub len : length now ≡ max (length old) (off + length new)
  pub bytes : (k : ℕ)
      → slice_index now k
      ≡ (if nat_le off k && nat_lt k (off + length new) then slice_index new (k - off) else slice_index old k)

-- a write of some bytes writes over what is there, and changes nothing else
abbrev pub WritesOver : Type 0
WritesOver = (old new : List ℕ) (off : ℕ) → 1 ≤ length new
    → IsWrittenOver old new off (overwritten old off new)

-- what was written is read back
abbrev pub ReadsBack : Type 0
ReadsBack = (file : FileContents) (new : List ℕ) (off : ℕ)
    → bytes_at off (length new) (written off new file) ≡ new

-- an end with a negative result changes no file
abbrev pub FailureChangesNothing : Type 0
FailureChangesNothing =
    (files : List FileContents) (op : Op) (below : ℕ) → after files op (negsuc below) ≡ files

-- Lists of files with the same file of this descriptor.
abbrev pub AgreeAt : ℤ → List FileContents → List FileContents → Type 0
AgreeAt fd files others = file_of files fd ≡ file_of others fd

-- whether an operation is one on the file of this descriptor
abbrev pub is_on : ℤ → Op → Bool
is_on own op = option_map_or (int_eq own) (file_asked op) false

-- an operation leaves the files as they are that it isn't on
abbrev pub OthersStay : Type 0
OthersStay = (files : List FileContents) (op : Op) (res : ℤ) (fd : ℤ) → is_on fd op ≡ false
    → AgreeAt fd (after files op res) files

-- what becomes of a file by an operation doesn't depend on the other files
abbrev pub FilesStandAlone : Type 0
FilesStandAlone = (files others : List FileContents) (op : Op) (res : ℤ) (fd : ℤ)
    → AgreeAt fd files others → AgreeAt fd (after files op res) (after others op res)

-- how an operation ends doesn't depend on the files that it isn't on
abbrev pub EndsStandAlone : Type 0
EndsStandAlone = (files others : List FileContents) (op : Op)
    → ((fd : ℤ) → is_on fd op ≡ true → AgreeAt fd files others)
    → (result_of files op ≡ result_of others op)
    × (is_lengthening files op ≡ is_lengthening others op)

-- What an operation that ended changes tells what has become of the bytes of a file that it is on; those of another stay.
abbrev pub ChangesTellBytes : Type 0
ChangesTellBytes = (files : List FileContents) (op : Op) (outcome : Outcome) (fd : ℤ) (was now : FileContents)
    → IsOutcome files op outcome → file_of files fd ≡ Some was
    → file_of (after files op outcome.res) fd ≡ Some now
    → now.bytes
    ≡ (if is_on fd op then bytes_after (change_by op (length was.bytes)) outcome.res was.bytes else was.bytes)

-- the descriptor of the file that a change is on
abbrev pub file_changed : Change → Option ℤ
file_changed (Put fd off len bytes given) = Some fd
file_changed (Sync fd) = Some fd
file_changed Nothing = None

-- a change is on the file that its operation is on
abbrev pub ChangesAreAsked : Type 0
ChangesAreAsked = (op : Op) (len : ℕ) (fd : ℤ) → file_changed (change_by op len) ≡ Some fd
    → file_asked op ≡ Some fd

-- what is changed of a longer file is changed of a shorter one too
abbrev pub ChangesStay : Type 0
ChangesStay = (op : Op) (shorter longer : ℕ) → shorter ≤ longer
    → (change_by op longer ≡ Nothing) ⊎ (change_by op shorter ≡ change_by op longer)
