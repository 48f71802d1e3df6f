-- What the slots of a table of registered files or buffers hold, by what has happened, the newest first, and which slot a file gets that asks for any. io_uring_register(2), IORING_REGISTER_FILES, IORING_REGISTER_FILES_UPDATE and IORING_REGISTER_FILE_ALLOC_RANGE; where the search for a free slot begins, and the order of faults, are the kernel's.
use Rattle.std.specs.Prelude.{◌≡◌, ℕ, ℤ, pos, ◌+◌, ◌^◌, ◌<◌, ◌≤◌, Bool, true, false, ◌&&◌, ◌||◌, ◌==◌, ◌⊎◌, nat_lt, nat_le, length, slice_index_or, List, [], ◌∷◌, if◌then◌else◌}
use Rattle.uring_register.specs.declared.tables.table.Table.{Table}
use Rattle.uring_entry.specs.Errors.{error}

-- a slot holds a word, which is 0 if it is free
pub data Filing : Type 0 where
  -- a table was registered, with these words in its slots
  Registered : List ℕ → Filing
  -- the table was unregistered
  Unregistered : Filing
  -- this slot got this word
  Filled : ℕ → ℕ → Filing
  -- the slots that are given out are these: from one on, so many
  Ranged : ℕ → ℕ → Filing

abbrev pub is_registered : List Filing → Bool
is_registered [] = false
is_registered (Registered words ∷ earlier) = true
is_registered (Unregistered ∷ earlier) = false
is_registered (_ ∷ earlier) = is_registered earlier

-- how many slots there are
abbrev pub size : List Filing → ℕ
size [] = 0
size (Registered words ∷ earlier) = length words
size (Unregistered ∷ earlier) = 0
size (_ ∷ earlier) = size earlier

-- what a slot holds
abbrev pub content : List Filing → ℕ → ℕ
content [] slot = 0
content (Registered words ∷ earlier) slot = slice_index_or words slot 0
content (Unregistered ∷ earlier) slot = 0
content (Filled at word ∷ earlier) slot = if slot == at then word else content earlier slot
content (Ranged from len ∷ earlier) slot = content earlier slot

-- the slots that are given out: all, unless a range was set
abbrev pub range_from : List Filing → ℕ
range_from [] = 0
range_from (Registered words ∷ earlier) = 0
range_from (Unregistered ∷ earlier) = 0
range_from (Filled at word ∷ earlier) = range_from earlier
range_from (Ranged from len ∷ earlier) = from

abbrev pub range_end : List Filing → ℕ
range_end [] = 0
range_end (Registered words ∷ earlier) = length words
range_end (Unregistered ∷ earlier) = 0
range_end (Filled at word ∷ earlier) = range_end earlier
range_end (Ranged from len ∷ earlier) = from + len

-- a slot that was filled or emptied moves the search after it or to it; one that got another word doesn't
abbrev pub hint_after : ℕ → ℕ → ℕ → ℕ → ℕ
hint_after before slot word hint =
    if before == 0 then (if word == 0 then hint else slot + 1) else
    if word == 0 then slot else hint

abbrev pub hint : List Filing → ℕ
hint [] = 0
hint (Registered words ∷ earlier) = 0
hint (Unregistered ∷ earlier) = 0
hint (Filled at word ∷ earlier) = hint_after (content earlier at) at word (hint earlier)
hint (Ranged from len ∷ earlier) = from

-- -75 (EOVERFLOW) of a range that ends past 32 bits, -22 (EINVAL) of a reserved field that isn't 0, and of a range that ends past the table
abbrev pub range_fault : List Filing → ℕ → ℕ → Bool → ℤ
range_fault log from len reserved =
    if nat_le (2 ^ 32) (from + len) then error 75 else
    if reserved || nat_lt (size log) (from + len) then error 22 else pos 0

abbrev pub after_range : List Filing → ℕ → ℕ → Bool → List Filing
after_range log from len reserved =
    if nat_le (2 ^ 32) (from + len) then log else
    if reserved || nat_lt (size log) (from + len) then log else Ranged from len ∷ log

-- the search begins at the hint, if that is in the range, else at its beginning
abbrev pub start_by : ℕ → ℕ → ℕ → ℕ
start_by from end hint = if nat_le from hint && nat_lt hint end then hint else from

abbrev pub start : List Filing → ℕ
start log = start_by (range_from log) (range_end log) (hint log)

-- of these words none from one place on to another is 0
abbrev pub NoneIsFree : (ℕ → ℕ) → ℕ → ℕ → Type 0
NoneIsFree words from end = (slot : ℕ) → from ≤ slot → slot < end → words slot ≡ 0 → ⊥

-- or this is the first that is
pub record IsFirstFree (words : ℕ → ℕ) (from end slot : ℕ) : Type 0 where
  pub from_there : from ≤ slot
  pub to_there : slot < end
  pub free : words slot ≡ 0
  pub first : NoneIsFree words from slot

-- a file that asks for any slot gets the first that is free from there to the end of the range, or else from its beginning on
abbrev pub IsGivenBy : (ℕ → ℕ) → ℕ → ℕ → ℕ → ℕ → Type 0
IsGivenBy words from end start slot =
    IsFirstFree words start end slot ⊎ NoneIsFree words start end × IsFirstFree words from start slot

abbrev pub IsGiven : List Filing → ℕ → Type 0
IsGiven log slot = IsGivenBy (content log) (range_from log) (range_end log) (start log) slot

-- or none, if all of the range hold something
abbrev pub GivesNoneBy : (ℕ → ℕ) → ℕ → ℕ → ℕ → Type 0
GivesNoneBy words from end start = NoneIsFree words start end × NoneIsFree words from start

abbrev pub GivesNone : List Filing → Type 0
GivesNone log = GivesNoneBy (content log) (range_from log) (range_end log) (start log)

-- glue: the table, and the words of its slots, after all this
pub record KeepsTable (log : List Filing) (t : Table) (rows : List ℕ) : Type 0 where
  pub registered : t.is_registered ≡ is_registered log
  pub count : t.count ≡ size log
  pub range_from : t.from ≡ range_from log
  pub range_end : t.end ≡ range_end log
  pub hint : t.hint ≡ hint log
  pub ordered : t.from ≤ t.end
  pub in_table : t.end ≤ t.count
  pub within : size log ≤ length rows
  pub words : (slot : ℕ) → slot < size log → slice_index_or rows slot 0 ≡ content log slot
