-- The law of the ways of a choice.
use Rattle.std.proofs.Common.{◌≡◌, ℕ, Bool, true, false, length, List, [], ◌∷◌, zero, suc, refl, ◌∙◌, arith}
use Rattle.std.proofs.lemmas.Grind.{common_steps}
use Rattle.uring_operations.specs.Requests.Ways.{ways, nth, named, way_of, NamesTheWays}

shift_issued : (x : ℕ) (later : List ℕ) (may_return : Bool) (n : ℕ) → named [] (x ∷ later) (way_of 0 (length (x ∷ later)) may_return (suc n)) ≡ named [] later (way_of 0 (length later) may_return n)
shift_issued x later may_return n = grind (arith, common_steps)

-- where none runs
names_issued : (issuable : List ℕ) (may_return : Bool) (n : ℕ) → named [] issuable (way_of 0 (length issuable) may_return n) ≡ nth (ways [] issuable may_return) n
names_issued [] true zero = refl
names_issued [] true (suc n) = grind (arith, common_steps)
names_issued [] false zero = refl
names_issued [] false (suc n) = grind (arith, common_steps)
names_issued (x ∷ later) may_return zero = grind (arith, common_steps)
names_issued (x ∷ later) may_return (suc n) =
    shift_issued x later may_return n ∙ names_issued later may_return n

shift : (x : ℕ) (later issuable : List ℕ) (may_return : Bool) (n : ℕ) → named (x ∷ later) issuable (way_of (length (x ∷ later)) (length issuable) may_return (suc n)) ≡ named later issuable (way_of (length later) (length issuable) may_return n)
shift x later issuable may_return n = grind (arith, common_steps)

pub names_the_ways : NamesTheWays
names_the_ways [] issuable may_return n = names_issued issuable may_return n
names_the_ways (x ∷ later) issuable may_return zero = grind (arith, common_steps)
names_the_ways (x ∷ later) issuable may_return (suc n) =
    shift x later issuable may_return n ∙ names_the_ways later issuable may_return n
