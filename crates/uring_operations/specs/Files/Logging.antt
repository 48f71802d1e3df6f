-- What is logged of writes and syncs, so that it is known what a power failure may leave. write(2), pwritev2(2), open(2), fsync(2), io_uring_prep_fsync(3); what Linux 6.18 was seen to do.
use Rattle.std.specs.Prelude.{ℕ, Bool, not, ◌==◌, ◌&&◌, ◌||◌, Option, Some, None, if◌then◌else◌}
use Rattle.std.specs.Int.RustNames.{bit_and}
use Rattle.uring_operations.specs.declared.entries.form.Form.{Form}
use Rattle.uring_operations.specs.declared.entries.form.Form.TheVariants as form
use Rattle.uring_operations.specs.declared.files.logging.Begins.{Begins}
use Rattle.uring_operations.specs.declared.files.logging.Begins.TheVariants.{AtOffset, AtPosition, AtEnd}
use Rattle.uring_operations.specs.declared.files.logging.Logged.{Logged}
use Rattle.uring_operations.specs.declared.files.logging.Logged.TheVariants.{Nothing, Write, Sync}
use Rattle.uring_operations.specs.declared.files.logging.LoggedOpen.{LoggedOpen}
use Rattle.uring_operations.specs.declared.files.logging.LoggedOpen.TheVariants.{Plain, Names, Nameless, Cuts}
use Rattle.uring_operations.specs.declared.files.logging.SyncedBytes.{SyncedBytes}
use Rattle.uring_operations.specs.declared.files.logging.Writing.{Writing}
use Rattle.uring_operations.specs.declared.entries.submission.Submission.{Submission}
use Rattle.uring_operations.specs.declared.files.syncing.SyncedKind.{SyncedKind}
use Rattle.uring_operations.specs.Entries.Clocks.{has_some}
use Rattle.uring_operations.specs.Entries.Needs.{is_write}

-- whether what happens to a file is logged: a regular one has bytes, and a folder names, that a disk keeps. Our own rule
abbrev pub is_logged_kind : SyncedKind → Bool
is_logged_kind k = k.is_regular || k.is_folder

-- what is logged of a request: an FSYNC (3), and a write to what keeps its bytes. What else changes a file is a system call of its own, and is seen as that; and of an entry with a fault nothing is carried out. Our own rule
abbrev pub logged_of : Form → ℕ → (is_stream : Bool) → Logged
logged_of form.Token code is_stream =
    if code == 3 then Sync else
    if is_write code && not is_stream then Write else Nothing
logged_of _ code is_stream = Nothing

-- whether an open file appends. open(2): O_APPEND is 1024
abbrev pub is_appending : Writing → Bool
is_appending w = w.is_known && has_some w.status 1024

-- where a write begins: at the end of the file, whatever its offset, if it is to append, or its file does and it isn't told otherwise; at the descriptor's position, if it has no offset; or at that. pwritev2(2): RWF_APPEND is 16 and RWF_NOAPPEND 32. write(2); pwrite(2), BUGS; io_uring_enter(2), IORING_OP_WRITE
abbrev pub write_begins : Writing → Begins
write_begins w =
    if has_some w.flags 16 || (is_appending w && not (has_some w.flags 32)) then AtEnd else
    if w.offset == 18446744073709551615 then AtPosition else AtOffset

-- whether a sync of the bytes of a write follows it, before it ends. open(2): O_DSYNC is 4096, which is a bit of O_SYNC too; pwritev2(2): RWF_DSYNC is 2 and RWF_SYNC 4
abbrev pub syncs_itself : Writing → Bool
syncs_itself w = has_some w.flags 6 || (w.is_known && has_some w.status 4096)

-- the bytes that the sync of an entry is of, or none: it is of the whole file if it has neither an offset nor a length. io_uring_prep_fsync(3). One with an offset alone is of no byte: Linux 6.18 was seen to sync the page at the offset, and to leave what stands after it
abbrev pub synced_bytes : Submission → Option SyncedBytes
synced_bytes e =
    if e.off == 0 && e.len == 0 then None else Some (record { begin = e.off; length = e.len })

-- whether a path is of the folder that counts as the disk, or below: it begins with the folder's, after which it ends (0) or goes on with a slash (47). Our own rule
abbrev pub is_on_disk : (begins_with_folder : Bool) → (after : ℕ) → Bool
is_on_disk begins_with_folder after = begins_with_folder && (after == 0 || after == 47)

-- what an open does to a file and its names: with O_PATH (2^21) nothing; with O_TMPFILE (2^22, with O_DIRECTORY, 2^16) it makes a file without a name; where nothing is, with O_CREAT (64) one with a name; and of a regular file that is there, with O_TRUNC (512), it takes the bytes, unless that one mustn't be there: O_EXCL (128) with O_CREAT. open(2)
abbrev pub open_logged : (flags : ℕ) → (is_there is_regular : Bool) → LoggedOpen
open_logged flags is_there is_regular =
    if has_some flags 2097152 then Plain else
    if bit_and flags 4259840 == 4259840 then Nameless else
    if not is_there then (if has_some flags 64 then Names else Plain) else
    if has_some flags 512 && is_regular && not (bit_and flags 192 == 192) then Cuts else Plain

-- with which flags an msync is made that waits for the disk, by whoever needn't: with MS_ASYNC (1) in the place of MS_SYNC (4), whose faults are the same; or none: it doesn't wait, or is refused. MS_INVALIDATE (2) may stand beside either. msync(2)
abbrev pub unwaited : ℕ → Option ℕ
unwaited flags = if flags == 4 then Some 1 else if flags == 6 then Some 3 else None
