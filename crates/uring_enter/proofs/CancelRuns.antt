-- The laws of cancels.
use Rattle.std.proofs.Common.{◌≡◌, ℕ, ◌≤◌, Bool, true, false, not, ◌&&◌, ◌||◌, List, [], ◌∷◌, refl, arith, if◌then◌else◌}
use Rattle.uring_enter.specs.declared.cancels.cancel.Sought.{Sought}
use Rattle.uring_enter.specs.declared.cancels.cancel.Outstanding.{Outstanding}
use Rattle.uring_enter.specs.Cancels.Cancels.{is_of_all, is_open, finds_any, one_more, count_of}
use Rattle.uring_enter.specs.Cancels.CancelLaws.{CancelsWhatFits, CancelsTheFirst, AsksWhatMatters, AsksWaitWhereItMatters, FindsFirstThatWait, PassesOverLinked}

pub cancels_what_fits : CancelsWhatFits
cancels_what_fits s earlier r is = grind arith

-- what one cancel more counts, of one
record IsOne (any : Bool) (count : ℕ) : Type 0 where
  pub none : any ≡ false → count ≡ 0
  pub most : count ≤ 1

one_by : (all any f g : Bool) (count : ℕ) → all ≡ false → IsOne any count
    → IsOne ((f && g) || any) (one_more count ((all || not any) && f && g))
one_by all any f g count one before = grind arith

one_of : (s : Sought) (seen : List Outstanding) → is_of_all s ≡ false → IsOne (finds_any s seen) (count_of s seen)
one_of s [] one = record { none = λ is. refl; most = omega arith }
one_of s (r ∷ earlier) one = grind (arith, one_by, (one_of s earlier one))

pub cancels_the_first : CancelsTheFirst
cancels_the_first s earlier one = grind (arith, (one_of s earlier one))

pub asks_what_matters : AsksWhatMatters
unfolding is_open
asks_what_matters s earlier r is = grind arith

pub asks_wait_where_it_matters : AsksWaitWhereItMatters
unfolding is_open
asks_wait_where_it_matters user_data r one other is = grind arith

-- what is found of what came first runs, and has to wait or goes on
first_by : (b f free runs waiting may first goes ready : Bool) → first ≡ true
    → (b && f && (free && (if runs then waiting && not ((first && runs && not goes) && ready) else may && not first))) ≡ true
    → (runs ≡ true) × ((ready && not goes) ≡ false)
first_by b f free runs waiting may first goes ready one is = grind arith

pub finds_first_that_wait : FindsFirstThatWait
unfolding is_open
finds_first_that_wait s earlier r one is = grind (arith, first_by)

pub passes_over_linked : PassesOverLinked
passes_over_linked s earlier r is = grind arith
