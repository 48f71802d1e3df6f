-- The laws of registered files and buffers.
use Rattle.std.proofs.Common.{◌≡◌, Bool, true, false, not, ◌↔◌, List, [], ◌∷◌, ◌++◌, if◌then◌else◌, arith}
use Rattle.uring_register.specs.declared.tables.uses.Ending.TheVariants.{Stays, Goes, Tells}
use Rattle.uring_register.specs.Tables.Uses.{Use, is_had, is_gone, is_told}
use Rattle.uring_register.specs.Tables.UseLaws.{IsUsing, IsGoneOnce, EndsAsItIs}

-- nothing happens to what no one has any more
last : (next : Use) (log : List Use) → IsUsing (next ∷ log) → is_gone log ≡ true → ⊥
last next log run gone = grind arith

-- what a run has after so much is a run
earlier_runs : (next : Use) (log : List Use) → IsUsing (next ∷ log) → IsUsing log
earlier_runs next log run = grind arith

-- what becomes of it, by whether one has it and whether its tag is to be told
ends : (had told : Bool)
    → (((if had then Stays else if told then Tells else Goes) ≡ Stays) ↔ (not had ≡ false))
    × (((if had then Stays else if told then Tells else Goes) ≡ Tells) ↔ ((not had ≡ true) × (told ≡ true)))
ends had told = grind arith

pub ends_as_it_is : EndsAsItIs
ends_as_it_is has_tag last log = ends (is_had (last ∷ log)) (is_told has_tag (last ∷ log))

pub is_gone_once : IsGoneOnce
is_gone_once [] next log run gone = last next log run gone
is_gone_once (e ∷ later) next log run gone = is_gone_once later next log (earlier_runs e (later ++ next ∷ log) run) gone
