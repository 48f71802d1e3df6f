-- A file in memory, and what reads, writes and syncs make of it. io_uring_enter(2), IORING_OP_READ, IORING_OP_WRITE and IORING_OP_FSYNC; that files are in memory, their largest size and the counts are our own rule.
use Rattle.std.specs.Prelude.{ℕ, ◌+◌, ◌-◌, ◌%◌, ◌^◌, pos, Bool, not, ◌&&◌, ◌==◌, nat_le, nat_lt, min, List, [], ◌++◌, length, take, drop, replicate, if◌then◌else◌}
use Rattle.uring_entry.specs.Layout.{padded}
use Rattle.uring_entry.specs.declared.operation.Outcome.{Outcome}

-- A file.
pub record FileContents : Type 0 where
  -- its bytes, that at offset 0 first
  pub bytes : List ℕ
  -- how many of its writes succeeded, mod 2 ^ 64
  pub writes : ℕ
  -- what writes was when the file was last synced, 0 if it never was
  pub synced : ℕ

-- a file at first
abbrev pub empty_file : FileContents
empty_file = record { bytes = []; writes = 0; synced = 0 }

-- a file at first that has these bytes. Our own rule
abbrev pub file_of_bytes : List ℕ → FileContents
file_of_bytes bytes = record { bytes = bytes; writes = 0; synced = 0 }

-- so many files at first
abbrev pub empty_files : ℕ → List FileContents
empty_files count = replicate count empty_file

-- the most bytes that a file may have. Our own rule
abbrev pub max_len : ℕ
max_len = 65536

-- the bytes that lie in a file from off on, at most len: none at or past its end
abbrev pub bytes_at : ℕ → ℕ → FileContents → List ℕ
bytes_at off len file = take len (drop off file.bytes)

-- how a read ends: with the number of bytes that lie there, and these bytes. io_uring_enter(2), IORING_OP_READ
abbrev pub read_outcome : ℕ → ℕ → FileContents → Outcome
read_outcome off len file =
    record { res = pos (min len (length file.bytes - off)); bytes = padded (bytes_at off len file) }

-- whether a write of len bytes at off would pass the largest size. One of no bytes never does: our own rule
abbrev pub is_too_long : ℕ → ℕ → Bool
is_too_long off len = not (len == 0) && nat_lt max_len (off + len)

-- whether a write of len bytes at off makes a file longer
abbrev pub is_past_end : ℕ → ℕ → FileContents → Bool
is_past_end off len file = not (len == 0) && nat_lt (length file.bytes) (off + len)

-- whether a write of len bytes at off changes bytes when it is carried out: it has some, and doesn't pass the largest size. Any other leaves its file as it is
abbrev pub has_effect : ℕ → ℕ → Bool
has_effect off len = not (len == 0) && nat_le (off + len) max_len

-- bytes with others written over them from off on: what lies before, zeros if that ends before off, the new bytes, and what lies after them. No bytes change nothing. io_uring_enter(2), IORING_OP_WRITE
abbrev pub overwritten : List ℕ → ℕ → List ℕ → List ℕ
overwritten old off new =
    if length new == 0 then old
    else take off old ++ replicate (off - length old) 0 ++ new ++ drop (off + length new) old

-- a file after a successful write
abbrev pub written : ℕ → List ℕ → FileContents → FileContents
written off new file =
    record file { bytes = overwritten file.bytes off new; writes = (file.writes + 1) % 2 ^ 64 }

-- a file after a sync: its successful writes so far are noted as safe. io_uring_enter(2), IORING_OP_FSYNC
abbrev pub with_writes_synced : FileContents → FileContents
with_writes_synced file = record file { synced = file.writes }
