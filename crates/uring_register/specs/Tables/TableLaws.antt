-- What holds of every table. io_uring_register(2), IORING_REGISTER_FILE_ALLOC_RANGE.
use Rattle.std.specs.Prelude.{◌≡◌, ◌≢◌, ℕ, ◌<◌, ◌≤◌, List, ◌∷◌}
use Rattle.uring_register.specs.Tables.Tables.{Filing, Filled, content, range_from, range_end, IsGiven, GivesNone}

-- a file that asks for any slot gets a free one of those that are given out
abbrev pub GivesFreeSlots : Type 0
GivesFreeSlots = (log : List Filing) (slot : ℕ) → IsGiven log slot
    → (content log slot ≡ 0) × (range_from log ≤ slot) × (slot < range_end log)

-- and where it gets none, each of these holds something
abbrev pub GivesWhatIsFree : Type 0
GivesWhatIsFree = (log : List Filing) (slot : ℕ) → GivesNone log → range_from log ≤ slot → slot < range_end log
    → content log slot ≢ 0

-- what is put into a slot, or given out, changes no other slot
abbrev pub KeepsOthers : Type 0
KeepsOthers = (log : List Filing) (at word slot : ℕ) → slot ≢ at
    → content (Filled at word ∷ log) slot ≡ content log slot
