-- What holds of every registered file and buffer. io_uring_register(2), but where our own rule is named.
use Rattle.std.specs.Prelude.{◌≡◌, ◌<◌, ◌↔◌, Bool, true, false, List, [], ◌∷◌, ◌++◌}
use Rattle.uring_register.specs.declared.tables.uses.Ending.TheVariants.{Stays, Tells}
use Rattle.uring_register.specs.Tables.Uses.{Use, Put, Lost, Taken, Given, Dropped, slots, requests, is_had, is_gone, is_told, ending_of}

-- whoever gets it is the first, or gets it from one who has it
abbrev pub may_get : List Use → Bool
may_get [] = true
may_get log = is_had log

-- a run: only who has it loses it or gives it back, and its table is dropped before that. Our own rule
abbrev pub IsUsing : List Use → Type 0
IsUsing [] = Unit {0}
IsUsing (Put ∷ earlier) = IsUsing earlier × (may_get earlier ≡ true)
IsUsing (Taken ∷ earlier) = IsUsing earlier × (may_get earlier ≡ true)
IsUsing (Lost ∷ earlier) = IsUsing earlier × (0 < slots earlier)
IsUsing (Given ∷ earlier) = IsUsing earlier × (0 < requests earlier)
IsUsing (Dropped ∷ earlier) = IsUsing earlier × (0 < slots earlier)

-- once it is gone nothing happens to it any more: so it is gone once, and its tag is told once
abbrev pub IsGoneOnce : Type 0
IsGoneOnce = (later : List Use) (next : Use) (log : List Use) → IsUsing (later ++ next ∷ log)
    → is_gone log ≡ true → ⊥

-- what becomes of it as a slot loses it or a request gives it back: it stays exactly while one has it, and its tag is told exactly if it is gone then, and is to be told
abbrev pub EndsAsItIs : Type 0
EndsAsItIs = (has_tag : Bool) (last : Use) (log : List Use)
    → ((ending_of has_tag (last ∷ log) ≡ Stays) ↔ (is_gone (last ∷ log) ≡ false))
    × ((ending_of has_tag (last ∷ log) ≡ Tells) ↔ ((is_gone (last ∷ log) ≡ true) × (is_told has_tag (last ∷ log) ≡ true)))

-- it is never gone while a slot or a request has it
abbrev pub GoesWhenFree : Type 0
GoesWhenFree = (log : List Use) → is_gone log ≡ true → (slots log ≡ 0) × (requests log ≡ 0)
