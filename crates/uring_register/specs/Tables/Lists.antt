-- Where the lists of a call of io_uring_register(2) stand, of how many rows they are, and of which slot each row is: what is told of fields here are those of <linux/io_uring.h>. io_uring_register(2), IORING_REGISTER_FILES2 and IORING_REGISTER_FILES_UPDATE2.
use Rattle.std.specs.Prelude.{◌≡◌, ℕ, ◌+◌, ◌*◌, ◌%◌, ◌^◌, ◌<◌, Bool, if◌then◌else◌}
use Rattle.uring_register.specs.declared.tables.lists.Lists.{Lists}
use Rattle.uring_register.specs.declared.tables.lists.ListRow.{ListRow}
use Rattle.uring_register.specs.declared.calls.structures.TableForm.{TableForm}
use Rattle.uring_register.specs.declared.calls.structures.UpdateForm.{UpdateForm}
use Rattle.uring_register.specs.declared.calls.structures.FilesForm.{FilesForm}

-- a call without a structure has its list as its argument, and no tags; its first row is of slot 0
abbrev pub lists_of_call : (at count : ℕ) → Lists
lists_of_call at count = record { rows = at; tags = 0; count = count; from = 0 }

-- a table is registered whole, from slot 0 on: `data` and `tags`, of `nr` rows each
abbrev pub lists_of_table : TableForm → Lists
lists_of_table f = record { rows = f.data; tags = f.tags; count = f.nr; from = 0 }

-- an update is from `offset` on
abbrev pub lists_of_update : UpdateForm → Lists
lists_of_update f = record { rows = f.data; tags = f.tags; count = f.nr; from = f.offset }

-- so is one of files alone, which has `fds` and no tags, and whose count the call gives
abbrev pub lists_of_files : FilesForm → ℕ → Lists
lists_of_files f count = record { rows = f.fds; tags = 0; count = count; from = f.offset }

-- a descriptor takes 4 bytes; a vector (`struct iovec`) and the row of a ring (`struct io_uring_rsrc_update`) 16
abbrev pub bytes_of_row : (is_of_descriptors : Bool) → ℕ
bytes_of_row is_of_descriptors = if is_of_descriptors then 4 else 16

-- the rows of a list stand one after the other, and so do tags, of 8 bytes each. Addresses and slots wrap, which no list in memory comes to, and no row of a table
abbrev pub row_of : Lists → (index : ℕ) → (is_of_descriptors : Bool) → ListRow
row_of l index is_of_descriptors = record {
  at = (l.rows + index * bytes_of_row is_of_descriptors) % 2 ^ 64;
  tag_at = (l.tags + index * 8) % 2 ^ 64;
  slot = (l.from + index) % 2 ^ 32;
}

-- of lists that reach no further than slots do, the row after so many others is of the slot that stands as far after the first
abbrev pub EachRowHasItsSlot : Type 0
EachRowHasItsSlot = (l : Lists) (index : ℕ) (is_of_descriptors : Bool) → l.from + index < 2 ^ 32
    → (row_of l index is_of_descriptors).slot ≡ l.from + index
