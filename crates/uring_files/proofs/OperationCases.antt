-- What an operation is on files, in one form: on none, or on one with a task. A new operation is a case of `cases` and `most_of`; what else holds of operations is told of that form, and names none.
-- Stable: other crates may import all of it.
use Rattle.std.proofs.Common.{◌≡◌, ℕ, ◌-◌, ◌≤◌, ℤ, pos, neg_ℤ, Bool, false, not, ◌&&◌, cond, Some, None, List, length, take, if◌then◌else◌, inr, ◌⊎◌, arith}
use Rattle.uring_files.proofs.Common.{FailureChangesNothing, FileContents, IsOutcome, Nothing, Op, Outcome, after, bytes_after, change_by, ended_with, file_asked, file_changed, file_of, int_eq, is_lengthening, is_past_end, is_too_long, length-set, on_file, option_map_or, read_outcome, result_of, with_changed, with_writes_synced, written}
use Rattle.uring_entry.specs.declared.errno.TheConstants.{EBADF, ECANCELED, EFBIG, ENOMEM}
use Rattle.uring_entry.specs.declared.operation.Op.TheVariants.{Nop, Read, Write, Fsync, Cancel}

-- a result that is called for on a file: a number, so much at most, or that the file would be too long
abbrev pub IsGiven : ℕ → ℤ → Type 0
IsGiven most res = ((n : ℕ) × (n ≤ most) × (res ≡ pos n)) ⊎ (res ≡ neg_ℤ EFBIG)

-- What an operation does on its file.
pub record Task : Type 0 where
  -- the file's descriptor
  pub fd : ℤ
  -- its greatest result
  pub most : ℕ
  -- how it ends there
  pub ends : FileContents → Outcome
  -- whether it makes it longer
  pub lengthens : FileContents → Bool
  -- the results with which it changes it, and to what
  pub changes : ℤ → Bool
  pub change : FileContents → FileContents

-- the greatest result of an operation
abbrev pub most_of : Op → ℕ
most_of (Read fd off len) = len
most_of (Write fd off len bytes) = len
most_of other = 0

-- the operation is on no file
pub record IsIdle (op : Op) : Type 0 where
  pub asked : file_asked op ≡ None
  pub ends : (files : List FileContents) → result_of files op ≡ ended_with (pos 0)
  pub lengthens : (files : List FileContents) → is_lengthening files op ≡ false
  pub after : (files : List FileContents) (res : ℤ) → after files op res ≡ files
  pub changed : (len : ℕ) → change_by op len ≡ Nothing

-- the operation does this task
pub record Does (op : Op) (t : Task) : Type 0 where
  pub asked : file_asked op ≡ Some t.fd
  pub most : most_of op ≡ t.most
  pub ends : (files : List FileContents) → result_of files op ≡ on_file (file_of files t.fd) t.ends
  pub lengthens : (files : List FileContents)
      → is_lengthening files op ≡ option_map_or t.lengthens (file_of files t.fd) false
  pub after : (files : List FileContents) (res : ℤ)
      → after files op res ≡ cond (t.changes res) (with_changed files t.fd t.change) files
  -- what it changes tells what it leaves of its file
  pub bytes : (files : List FileContents) (outcome : Outcome) (was : FileContents)
      → file_of files t.fd ≡ Some was → IsOutcome files op outcome
      → bytes_after (change_by op (length was.bytes)) outcome.res was.bytes
      ≡ (cond (t.changes outcome.res) (t.change was) was).bytes
  pub changed : (len : ℕ) (fd : ℤ) → file_changed (change_by op len) ≡ Some fd → t.fd ≡ fd
  pub stays : (shorter longer : ℕ) → shorter ≤ longer
      → (change_by op longer ≡ Nothing) ⊎ (change_by op shorter ≡ change_by op longer)

-- ---- a read

abbrev read_task : ℤ → ℕ → ℕ → Task
read_task fd off len = record {
  fd = fd;
  most = len;
  ends = read_outcome off len;
  lengthens = λ file. false;
  changes = λ res. false;
  change = λ file. file;
}

read_does : (fd : ℤ) (off len : ℕ) → Does (Read fd off len) (read_task fd off len)
read_does fd off len = grind arith

-- ---- a write

abbrev write_task : ℤ → ℕ → ℕ → List ℕ → Task
write_task fd off len bytes = record {
  fd = fd;
  most = len;
  ends = λ file. ended_with (if is_too_long off len then neg_ℤ EFBIG else pos len);
  lengthens = λ file. not (is_too_long off len) && is_past_end off len file;
  changes = λ res. int_eq res (pos len);
  change = written off (take len bytes);
}

write_does : (fd : ℤ) (off len : ℕ) (bytes : List ℕ) → Does (Write fd off len bytes) (write_task fd off len bytes)
write_does fd off len bytes = grind arith

-- ---- a sync

abbrev sync_task : ℤ → Task
sync_task fd = record {
  fd = fd;
  most = 0;
  ends = λ file. ended_with (pos 0);
  lengthens = λ file. false;
  changes = λ res. int_eq res (pos 0);
  change = with_writes_synced;
}

sync_does : (fd : ℤ) → Does (Fsync fd) (sync_task fd)
sync_does fd = grind arith

-- ---- all of them

pub cases : (op : Op) → IsIdle op ⊎ ((t : Task) × Does op t)
cases (Read fd off len) = inr (read_task fd off len, read_does fd off len)
cases (Write fd off len bytes) = inr (write_task fd off len bytes, write_does fd off len bytes)
cases (Fsync fd) = inr (sync_task fd, sync_does fd)
cases Nop = grind arith
cases (Cancel target all) = grind arith

-- ==== what follows, whichever operation it is

-- an end that failed changes no file

pub failed : FailureChangesNothing
failed files op below = grind arith

-- as many files after an operation as before

pub many_after : (files : List FileContents) (op : Op) (res : ℤ)
    → length (after files op res) ≡ length files
many_after files op res = grind (arith, length-set)

-- What is called for: a number, no file, or that the file would be too long.

abbrev pub IsCalled : ℕ → ℤ → Type 0
IsCalled most res = IsGiven most res ⊎ (res ≡ neg_ℤ EBADF)

pub result_called : (files : List FileContents) (op : Op) → IsCalled (most_of op) (result_of files op).res
result_called files op = grind arith

-- No operation gives ECANCELED.

abbrev pub IsOther : ℤ → Type 0
IsOther res = int_eq res (neg_ℤ ECANCELED) ≡ false

pub outcome_other : (files : List FileContents) (op : Op) (outcome : Outcome)
    → IsOutcome files op outcome → IsOther outcome.res
outcome_other files op outcome h = grind arith

-- No operation is called for to end with ENOMEM.

pub result_granted : (files : List FileContents) (op : Op) → (result_of files op).res ≡ neg_ℤ ENOMEM → ⊥
result_granted files op is = grind arith
