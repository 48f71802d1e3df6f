-- The laws of what a call takes.
use Rattle.std.proofs.Common.{◌≡◌, ℕ, ◌+◌, ◌-◌, ◌%◌, ◌^◌, ◌<◌, ◌≤◌, Bool, true, false, ◌||◌, List, [], ◌∷◌, ◌++◌, length, sym, arith}
use Rattle.std.specs.Int.RustNames.{bit_and}
use Rattle.uring_enter.proofs.Common.{false≢true, length-append}
use Rattle.std.proofs.lemmas.Nat.{and_mask}
use Rattle.uring_enter.proofs.ShowingRuns.{same_remainder, cell_of_position}
use Rattle.uring_enter.specs.declared.taking_up.taking.Submitting.{Submitting}
use Rattle.uring_enter.specs.declared.taking_up.taking.Item.{Item}
use Rattle.uring_enter.specs.declared.taking_up.taking.Onward.TheVariants.{Takes}
use Rattle.uring_enter.specs.TakingUp.Takings.{most, ends, has_ended, cell_of, next_of}
use Rattle.uring_enter.specs.TakingUp.TakingLaws.{TakesEachOnce, TakesNoneAfterAnEnd}

below_most : (a : Submitting) (taken : List Item) (cell : ℕ) → next_of a taken ≡ Takes cell
    → (has_ended a.submits_all taken ≡ false) × (length taken < most a) × (cell_of a taken ≡ cell)
below_most a taken cell is = grind arith

ended_before : (all : Bool) (newer earlier : List Item) (item : Item) → has_ended all (newer ++ item ∷ earlier) ≡ false → ends all item ≡ false
ended_before all [] earlier item none = grind arith
ended_before all (last ∷ newer) earlier item none = ended_before all newer earlier item (or_rest (ends all last) (has_ended all (newer ++ item ∷ earlier)) none)
  where
    or_rest : (b c : Bool) → (b || c) ≡ false → c ≡ false
    or_rest true c is = absurd (false≢true (sym is))
    or_rest false c is = is

pub takes_none_after_an_end : TakesNoneAfterAnEnd
takes_none_after_an_end a newer earlier item cell is = grind (arith, ended_before)

-- the cell of a position, where the entries are a power of two
cell_by : (head count size k : ℕ) → k ≤ 32 → size ≡ 2 ^ k → bit_and ((head + count) % 2 ^ 32) (size - 1) ≡ (head + count) % 2 ^ k
cell_by head count size k fits is = grind (arith, and_mask, cell_of_position)

pub takes_each_once : TakesEachOnce
takes_each_once a k newer earlier item one other fits size first second same =
    grind (arith, below_most, length-append, cell_by, same_remainder)
