-- Which bits of an entry's and a completion's words are which field.
use Rattle.std.specs.Prelude.{◌≡◌, ◌↔◌, ℕ, ◌+◌, ◌*◌, ◌-◌, ◌/◌, ◌%◌, ◌^◌, ◌<◌, List, [], ◌∷◌, ◌++◌, length, take, drop, replicate, slice_index, slice_set, ℤ, FitsSigned, Bool, ◌==◌, not}
use Rattle.std.specs.List.{flat_map, AllByRecursion}
use Rattle.std.specs.Int.{w32, w64, cast_signed, cast_unsigned, to_le_bytes}
use Rattle.std.specs.Int.RustNames.{bit_and}

-- An entry of the submission ring: its 16 words of 64 bits. io_uring_enter(2), struct io_uring_sqe, for the first five; the rest is our own rule
abbrev pub Sqe : Type 0
Sqe = List ℕ

-- the entry that every slot holds at first. Our own rule
abbrev pub zero_entry : Sqe
zero_entry = replicate 16 0

-- The fields, by the words that hold them; byte 0 is the low byte of word 0. io_uring_enter(2), struct io_uring_sqe
abbrev pub opcode_of : Sqe → ℕ
opcode_of e = slice_index e 0 % 2 ^ 8

abbrev pub flags_of : Sqe → ℕ
flags_of e = slice_index e 0 / 2 ^ 8 % 2 ^ 8

abbrev pub ioprio_of : Sqe → ℕ
ioprio_of e = slice_index e 0 / 2 ^ 16 % 2 ^ 16

abbrev pub fd_of : Sqe → ℤ
fd_of e = cast_signed w32 (slice_index e 0 / 2 ^ 32)

abbrev pub off_of : Sqe → ℕ
off_of e = slice_index e 1

abbrev pub addr_of : Sqe → ℕ
addr_of e = slice_index e 2

abbrev pub len_of : Sqe → ℕ
len_of e = slice_index e 3 % 2 ^ 32

abbrev pub operation_flags_of : Sqe → ℕ
operation_flags_of e = slice_index e 3 / 2 ^ 32

abbrev pub user_data_of : Sqe → ℕ
user_data_of e = slice_index e 4

-- bytes 40 to 63, as three words. That they mean nothing is our own rule
abbrev pub reserved_of : Sqe → List ℕ
reserved_of e = take 3 (drop 5 e)

-- the bytes that words hold, the low byte of each word first
abbrev pub bytes_of : List ℕ → List ℕ
bytes_of words = flat_map (to_le_bytes w64) words

-- the 64 bytes of data: words 8 to 15. Our own rule
abbrev pub payload_of : Sqe → List ℕ
payload_of e = bytes_of (drop 8 e)

-- whether every bit of this flag is set
abbrev pub has : ℕ → Sqe → Bool
has flag e = bit_and (flags_of e) flag == flag

-- whether some bit of these flags is set
abbrev pub has_some_of : ℕ → Sqe → Bool
has_some_of flags e = not (bit_and (flags_of e) flags == 0)

-- The first eight words of an entry with these fields, every other field of theirs zero.
abbrev pub header : (opcode flags : ℕ) → ℤ → (off addr len user_data : ℕ) → List ℕ
header opcode flags fd off addr len user_data =
    (opcode + 2 ^ 8 * flags + 2 ^ 32 * cast_unsigned w32 fd) ∷ off ∷ addr ∷ len ∷ user_data ∷ 0 ∷ 0 ∷ 0 ∷ []

-- the entry with these first words and no data
abbrev pub without_data : List ℕ → Sqe
without_data words = words ++ replicate 8 0

-- up to 64 bytes of data, with zeros after them
abbrev pub padded : List ℕ → List ℕ
padded bytes = bytes ++ replicate (64 - length bytes) 0

-- each number is a word of 64 bits
abbrev pub AreWords : List ℕ → Type 0
AreWords words = AllByRecursion (λ word. word < 2 ^ 64) words

-- e has these first eight words, and then, as words, these bytes of data and zeros
pub record HasData (e : Sqe) (words bytes : List ℕ) : Type 0 where
  pub size : length e ≡ 16
  pub first : take 8 e ≡ words
  pub rest : AreWords (drop 8 e)
  pub payload : payload_of e ≡ padded bytes

-- A completion: the user data of its request, the result, and the bytes that a read gave. io_uring(7), Reading completion events, struct io_uring_cqe, for the first two; the bytes are our own rule
pub record Cqe : Type 0 where
  pub user_data : ℕ
  pub res : ℤ
  pub payload : List ℕ

-- the words of a completion: user data, then the result in the low half of the second word and no flags in its high half, then the bytes. io_uring(7), struct io_uring_cqe, for the first two
pub record HasWords (c : Cqe) (words : List ℕ) : Type 0 where
  pub size : length words ≡ 10
  pub range : AreWords words
  pub first : take 2 words ≡ c.user_data ∷ cast_unsigned w32 c.res ∷ []
  pub payload : bytes_of (drop 2 words) ≡ c.payload

-- the completion that ten words hold, whatever flags stand in the high half of the second
abbrev pub completion_of : List ℕ → Cqe
completion_of words =
    record {
      user_data = slice_index words 0;
      res = cast_signed w32 (slice_index words 1 % 2 ^ 32);
      payload = bytes_of (drop 2 words);
    }

-- the same words with no flags
abbrev pub without_flags : List ℕ → List ℕ
without_flags words = slice_set words 1 (slice_index words 1 % 2 ^ 32)

-- The words of a completion, whose result has 32 bits, give it back.
abbrev pub WordsGiveBack : Type 0
WordsGiveBack =
    (c : Cqe) (words : List ℕ) → FitsSigned w32 c.res → HasWords c words → completion_of words ≡ c

-- So they are no other completion's.
abbrev pub WordsDetermine : Type 0
WordsDetermine = (c d : Cqe) (words : List ℕ) → FitsSigned w32 c.res → FitsSigned w32 d.res
    → HasWords c words → HasWords d words → c ≡ d

-- Ten words of 64 bits are, but for their flags, the words of the completion that they hold, and no other words are.
abbrev pub WordsAreKept : Type 0
WordsAreKept = (words again : List ℕ) → length words ≡ 10 → AreWords words
    → HasWords (completion_of words) again ↔ (again ≡ without_flags words)
