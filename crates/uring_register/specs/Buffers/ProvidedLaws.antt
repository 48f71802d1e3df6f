-- What holds of every group of provided buffers. io_uring_enter(2), IORING_OP_PROVIDE_BUFFERS.
use Rattle.std.specs.Prelude.{◌≡◌, ℕ, ◌%◌, ◌^◌, ◌<◌, ◌≤◌, ◌⊎◌, false, List, [], ◌∷◌, ◌++◌}
use Rattle.uring_register.specs.declared.buffers.group.Buffer.{Buffer}
use Rattle.uring_register.specs.Buffers.Provided.{Change, Provided, Took, is_ring, provided, gone, made, nth}

-- the application has provided this buffer
abbrev pub IsProvided : List Change → Buffer → Type 0
IsProvided [] buffer = ⊥
IsProvided (Provided asked ∷ earlier) buffer =
    IsProvided earlier buffer ⊎ ((place : ℕ) × (place < asked.count) × (buffer ≡ made asked place))
IsProvided (_ ∷ earlier) buffer = IsProvided earlier buffer

-- each buffer that there is was provided
abbrev pub GivesWhatWasProvided : Type 0
GivesWhatWasProvided = (log : List Change) (n : ℕ) → n < provided log → IsProvided log (nth log n)

-- and stays what it was
abbrev pub KeepsWhatWasProvided : Type 0
KeepsWhatWasProvided = (later log : List Change) (n : ℕ) → n < provided log
    → nth (later ++ log) n ≡ nth log n

-- no more are removed or taken than were provided
abbrev pub TakesNoMore : Type 0
TakesNoMore = (log : List Change) → gone log ≤ provided log

-- a buffer that was taken is before each that is taken later: so each is taken once, in the order in which they were provided
abbrev pub TakesInOrder : Type 0
TakesInOrder = (later log : List Change) → is_ring log ≡ false → gone log < provided log
    → gone log < gone (later ++ Took ∷ log)

-- of a ring of 2^k entries the cell is that of the count, though positions have 16 bits
abbrev pub TakesCellsInTurn : Type 0
TakesCellsInTurn = (k n : ℕ) → k ≤ 16 → n % 2 ^ 16 % 2 ^ k ≡ n % 2 ^ k
