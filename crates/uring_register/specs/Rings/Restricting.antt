-- What the application of a ring may do that was made disabled, once it is enabled. io_uring_register(2), IORING_REGISTER_RESTRICTIONS and IORING_REGISTER_ENABLE_RINGS; the order of faults is the kernel's.
use Rattle.std.specs.Prelude.{◌≡◌, ℕ, ℤ, pos, Bool, true, false, not, ◌&&◌, ◌||◌, ◌==◌, nat_lt, nat_le, List, [], ◌∷◌, Option, Some, None, if◌then◌else◌}
use Rattle.std.specs.Int.{bit_at}
use Rattle.std.specs.Int.RustNames.{bit_or}
use Rattle.uring_register.specs.declared.rings.restrictions.Restriction.{Restriction}
use Rattle.uring_register.specs.declared.rings.restrictions.Restrictions.{Restrictions}
use Rattle.uring_entry.specs.Errors.{error}

-- a row is of one of four kinds, and names a call or an operation that there is. The calls of io_uring_register(2) are those up to IORING_REGISTER_FILE_ALLOC_RANGE (25), the operations those up to IORING_OP_LISTEN (57)
abbrev pub is_row : Restriction → Bool
is_row r =
    if r.kind == 0 then nat_lt r.number 26 else
    if r.kind == 1 then nat_lt r.number 58 else nat_lt r.kind 4

abbrev pub row_fault : Restriction → ℤ
row_fault r = if is_row r then pos 0 else error 22

-- the fault of a list: that of the first row that has one
abbrev pub list_fault : List Restriction → ℤ
list_fault [] = pos 0
list_fault (r ∷ rest) = if is_row r then list_fault rest else row_fault r

-- whether a row of this kind names the number: of a call 0 (IORING_RESTRICTION_REGISTER_OP), of an operation 1 (SQE_OP)
abbrev pub is_named : ℕ → ℕ → List Restriction → Bool
is_named kind number [] = false
is_named kind number (r ∷ earlier) = (r.kind == kind && r.number == number) || is_named kind number earlier

-- the flags of the last row of this kind: that an entry may have 2 (SQE_FLAGS_ALLOWED), that each has 3 (SQE_FLAGS_REQUIRED)
abbrev pub flags_of : ℕ → List Restriction → ℕ
flags_of kind [] = 0
flags_of kind (r ∷ earlier) = if r.kind == kind then r.number else flags_of kind earlier

-- each of these flags is one of those
abbrev pub are_among : ℕ → ℕ → Bool
are_among flags all = bit_or flags all == all

-- an entry is allowed if a row names its operation, it has the flags that are required, and no others but those that are allowed; each, where no restrictions are registered
abbrev pub allows_entry : Option (List Restriction) → ℕ → ℕ → Bool
allows_entry None code flags = true
allows_entry (Some rows) code flags =
    is_named 1 code rows && are_among (flags_of 3 rows) flags
    && are_among flags (bit_or (flags_of 2 rows) (flags_of 3 rows))

-- a call is allowed if a row names it; each, while the ring is disabled
abbrev pub allows_call : Option (List Restriction) → ℕ → Bool → Bool
allows_call None code disabled = true
allows_call (Some rows) code disabled = disabled || is_named 0 code rows

-- -77 (EBADFD) of a ring that isn't disabled, -16 (EBUSY) of a second list, -22 (EINVAL) of no list or of more than 103 rows, as Linux 6.18 has it
abbrev pub restricting_fault : Bool → Bool → Bool → ℕ → ℤ
restricting_fault disabled registered has_list count =
    if not disabled then error 77 else
    if registered then error 16 else
    if not has_list || not (nat_le count 103) then error 22 else pos 0

abbrev pub enabling_fault : Bool → Bool → ℤ
enabling_fault disabled has_argument =
    if has_argument then error 22 else
    if not disabled then error 77 else pos 0

-- glue: the bits of a set of numbers below 64 say which of them rows of this kind name
abbrev pub KeepsNumbers : ℕ → List Restriction → ℕ → Type 0
KeepsNumbers kind rows set =
    (number : ℕ) → (nat_lt number 64 && bit_at set number == 1) ≡ is_named kind number rows

-- glue: the restrictions of these rows, the last first
pub record KeepsRows (rows : List Restriction) (r : Restrictions) : Type 0 where
  pub registered : r.are_registered ≡ true
  pub codes : KeepsNumbers 1 rows r.codes
  pub calls : KeepsNumbers 0 rows r.calls
  pub allowed : r.allowed ≡ flags_of 2 rows
  pub required : r.required ≡ flags_of 3 rows

-- glue: or of no list
abbrev pub KeepsRestrictions : Option (List Restriction) → Restrictions → Type 0
KeepsRestrictions None r = r.are_registered ≡ false
KeepsRestrictions (Some rows) r = KeepsRows rows r
