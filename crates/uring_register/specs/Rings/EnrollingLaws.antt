-- What holds of every thread's rings by number. io_uring_register(2), IORING_REGISTER_RING_FDS.
use Rattle.std.specs.Prelude.{◌≡◌, ◌≢◌, ℕ, ◌+◌, ◌<◌, true, false, List, ◌∷◌, pos}
use Rattle.uring_register.specs.Rings.Enrolling.{Enrolling, Enrolled, Dismissed, content, known_after, is_known, naming_fault, IsEnrolledAt}
use Rattle.uring_register.specs.declared.rings.enrolled.Deed.{Deed}
use Rattle.uring_entry.specs.Errors.{error}

-- a number names what was put there last, to a thread that is known
abbrev pub NamesTheLast : Type 0
NamesTheLast = (log : List Enrolling) (row descriptor : ℕ) → row < 16
    → (naming_fault (Enrolled row descriptor ∷ log) true row ≡ pos 0) × (content (Enrolled row descriptor ∷ log) row ≡ descriptor + 1)

-- what is put into a row, or emptied, changes no other
abbrev pub KeepsOtherRows : Type 0
KeepsOtherRows = (log : List Enrolling) (row descriptor number : ℕ) → number ≢ row
    → (content (Enrolled row descriptor ∷ log) number ≡ content log number) × (content (Dismissed row ∷ log) number ≡ content log number)

-- a ring takes no other's row
abbrev pub TakesNoOthersRow : Type 0
TakesNoOthersRow = (log : List Enrolling) (asked row : ℕ) → IsEnrolledAt log asked row
    → (content log row ≡ 0) × (row < 16)

-- a ring that is taken back at once, since its number can't be written, leaves all as it was
abbrev pub TakesBack : Type 0
TakesBack = (log : List Enrolling) (asked row descriptor number : ℕ) → IsEnrolledAt log asked row
    → content (Dismissed row ∷ Enrolled row descriptor ∷ log) number ≡ content log number

-- a thread that is known in its process stays so, whatever it does there
abbrev pub StaysKnown : Type 0
StaysKnown = (before process : ℕ) (deed : Deed) → is_known before process ≡ true
    → is_known (known_after before process deed) process ≡ true

-- and to one that isn't no number names a ring, as to a child that has done nothing yet
abbrev pub NamesNoneUnknown : Type 0
NamesNoneUnknown = (log : List Enrolling) (number : ℕ) → naming_fault log false number ≡ error 22
