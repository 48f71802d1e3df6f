-- The law of the vectors of a message that is moved in parts.
use Rattle.std.proofs.Common.{◌≡◌, ℕ, zero, suc, ◌+◌, ◌-◌, min, List, [], ◌∷◌, ◌++◌, drop, refl, arith}
use Rattle.uring_operations.specs.Calls.Advances.{places_from, LeavesWhatIsAfter}

-- the same places, by other numbers
same : (from from' size size' moved moved' : ℕ) (later : List ℕ) → from ≡ from' → size ≡ size' → moved ≡ moved'
    → places_from from size ++ drop moved later ≡ places_from from' size' ++ drop moved' later
same from from' size size' moved moved' later is_from is_size is_moved = grind arith

-- the bytes of one vector and of others after it
after_one : (from size moved : ℕ) (later : List ℕ)
    → drop moved (places_from from size ++ later)
    ≡ places_from (from + min moved size) (size - min moved size) ++ drop (moved - min moved size) later
after_one from zero moved later = grind arith
after_one from (suc size) zero later =
    same from (from + min 0 (suc size)) (suc size) (suc size - min 0 (suc size)) 0 (0 - min 0 (suc size)) later (omega arith) (omega arith) (omega arith)
after_one from (suc size) (suc moved) later = grind (arith, (after_one (suc from) size moved later), same)

pub leaves_what_is_after : LeavesWhatIsAfter
leaves_what_is_after [] zero = refl
leaves_what_is_after [] (suc moved) = refl
leaves_what_is_after (v ∷ later) moved = grind (arith, min, (leaves_what_is_after later (moved - min moved v.size)), after_one)
