-- What a line of the kernel's list of a process's memory says: `7f5e8c000000-7f5e8c021000 rw-s 00001000 08:02 173521    /srv/data`. proc_pid_maps(5): addresses, rights, offset, device and inode, and the path of its file.
use Rattle.std.specs.Prelude.{◌≡◌, ℕ, Bool, true, false, ◌&&◌, ◌==◌, ◌-◌, ◌^◌, nat_lt, List, ◌∷◌, ◌++◌, length, slice_get, replicate, Option, Some, None, if◌then◌else◌}
use Rattle.std.specs.List.{AllByRecursion, before_first, after_first}
use Rattle.std.specs.Option.{unwrap_or}
use Rattle.uring_register.specs.Buffers.Pinning.{is_written_back}
use Rattle.uring_register.specs.KernelLists.Texts.{is_number, value_of, first_word, after_word, part_of}
use Rattle.uring_register.specs.declared.kernel_lists.mapped.Mapped.{Mapped}

-- the address where it starts, and the one after it, with a hyphen between
abbrev pub start_of : (line : List ℕ) → List ℕ
start_of line = before_first (λ byte. byte == 45) (first_word line)

abbrev pub end_of : (line : List ℕ) → List ℕ
end_of line = after_first (λ byte. byte == 45) (first_word line)

abbrev pub rights_of : (line : List ℕ) → List ℕ
rights_of line = first_word (after_word line)

-- where in its file it begins
abbrev pub offset_of : (line : List ℕ) → List ℕ
offset_of line = first_word (after_word (after_word line))

-- the two numbers of the device have a colon between
abbrev pub major_of : (line : List ℕ) → List ℕ
major_of line = part_of (first_word (after_word (after_word (after_word line)))) 0

-- the file's inode, 0 without one
abbrev pub inode_of : (line : List ℕ) → List ℕ
inode_of line = first_word (after_word (after_word (after_word (after_word line))))

-- all that stands after the inode, with blanks that are the path's own. Memory of no file has none
abbrev pub path_of : (line : List ℕ) → List ℕ
path_of line = after_word (after_word (after_word (after_word (after_word line))))

-- a number of so many bits, decimal by the base 10, and hexadecimal by 16
abbrev pub number_of : (base bits : ℕ) → List ℕ → Option ℕ
number_of base bits digits = if is_number base digits && nat_lt (value_of base digits) (2 ^ bits) then Some (value_of base digits) else None

-- the last of the four rights is `s` of what is shared, and `p` of what is the process's own
abbrev pub is_shared : (line : List ℕ) → Bool
is_shared line = unwrap_or (slice_get (rights_of line) 3) 0 == 115

abbrev pub begins_with : (byte : ℕ) → List ℕ → Bool
begins_with byte text = unwrap_or (slice_get text 0) 0 == byte

-- a path from the root on, and no name, as `[heap]` or `anon_inode:[io_uring]`
abbrev pub has_path : (line : List ℕ) → Bool
has_path line = begins_with 47 (path_of line)

-- what a line says beside its numbers, if each is one. The file system of what is shared is asked about by its path: of other memory nothing depends on it
abbrev pub with_numbers : (line : List ℕ) → (start end offset major inode : Option ℕ) → Option Mapped
with_numbers line (Some start) (Some end) (Some offset) (Some major) (Some inode) =
    Some (record {
      start = start;
      end = end;
      offset = offset;
      inode = inode;
      path = length line - length (path_of line);
      major = major;
      is_shared = is_shared line;
      is_asked = is_shared line && has_path line;
    })
with_numbers line start end offset major inode = None

-- addresses, offsets and inodes have 64 bits, and the number of a device 32
abbrev pub mapped_of : (line : List ℕ) → Option Mapped
mapped_of line =
    with_numbers line (number_of 16 64 (start_of line)) (number_of 16 64 (end_of line)) (number_of 16 64 (offset_of line)) (number_of 16 32 (major_of line)) (number_of 10 64 (inode_of line))

-- it is shared with a file that the kernel writes back
abbrev pub is_of_a_file : Mapped → (kind : Option ℕ) → Bool
is_of_a_file m kind = m.is_shared && is_written_back m.major kind

-- A line as it is written, field by field.
pub record Fields : Type 0 where
  pub start : List ℕ
  pub end : List ℕ
  pub rights : List ℕ
  pub offset : List ℕ
  pub major : List ℕ
  pub minor : List ℕ
  pub inode : List ℕ
  pub blanks : ℕ
  pub path : List ℕ

-- a hyphen is 45, a colon 58, and a blank 32; before the path there may be more of these
abbrev pub line_of : Fields → List ℕ
line_of f =
    f.start ++ 45 ∷ (f.end ++ 32 ∷ (f.rights ++ 32 ∷ (f.offset ++ 32 ∷ (f.major ++ 58 ∷ (f.minor ++ 32 ∷ (f.inode ++ 32 ∷ (replicate f.blanks 32 ++ f.path)))))))

-- its numbers are numbers, its rights are four bytes and no blank, and no path begins with one
pub record AreFields (f : Fields) : Type 0 where
  pub start : is_number 16 f.start ≡ true
  pub end : is_number 16 f.end ≡ true
  pub rights : AllByRecursion (λ byte. (byte == 32) ≡ false) f.rights
  pub four : length f.rights ≡ 4
  pub offset : is_number 16 f.offset ≡ true
  pub major : is_number 16 f.major ≡ true
  pub minor : is_number 16 f.minor ≡ true
  pub inode : is_number 10 f.inode ≡ true
  pub path : begins_with 32 f.path ≡ false

-- what is read of a line is what was written
pub record IsReadSo (f : Fields) : Type 0 where
  pub start : start_of (line_of f) ≡ f.start
  pub end : end_of (line_of f) ≡ f.end
  pub rights : rights_of (line_of f) ≡ f.rights
  pub offset : offset_of (line_of f) ≡ f.offset
  pub major : major_of (line_of f) ≡ f.major
  pub inode : inode_of (line_of f) ≡ f.inode
  pub path : path_of (line_of f) ≡ f.path

abbrev pub ReadsWhatIsWritten : Type 0
ReadsWhatIsWritten = (f : Fields) → AreFields f → IsReadSo f
