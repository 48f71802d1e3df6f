-- The laws of what waits after a completion that was put off.
use Rattle.std.proofs.Common.{◌≡◌, Bool, true, false, [], ◌∷◌, refl, ap}
use Rattle.std.proofs.lemmas.Bool.{false≢true}
use Rattle.uring_enter.specs.declared.going_on.putting_off.Coming.TheVariants.{Submission, Posting, End}
use Rattle.uring_enter.specs.declared.going_on.putting_off.Order.{Order}
use Rattle.uring_enter.specs.declared.going_on.putting_off.Order.TheVariants.{Comes, PostsFirst, Waits}
use Rattle.uring_enter.specs.GoingOn.PuttingOff.{PutOff, IsPosted, IsRefused, HasCome, is_put_off, is_refused, order_after, NothingOvertakes}

abbrev is_now : Order → Bool
is_now Comes = true
is_now PostsFirst = false
is_now Waits = false

submitted : (put refused : Bool) → order_after Submission put refused ≡ Comes → put ≡ true → ⊥
submitted true true comes is = false≢true (ap is_now comes)
submitted true false comes is = false≢true (ap is_now comes)
submitted false refused comes is = false≢true is

posted : (put refused : Bool) → order_after Posting put refused ≡ Comes → put ≡ true → ⊥
posted true true comes is = false≢true (ap is_now comes)
posted true false comes is = false≢true (ap is_now comes)
posted false refused comes is = false≢true is

pub nothing_overtakes : NothingOvertakes
nothing_overtakes [] run is = refl
nothing_overtakes (PutOff ∷ earlier) run is = refl
nothing_overtakes (IsPosted ∷ earlier) run is = absurd (false≢true is)
nothing_overtakes (IsRefused ∷ earlier) run is = nothing_overtakes earlier run is
nothing_overtakes (HasCome End ∷ earlier) (run, comes) is = nothing_overtakes earlier run is
nothing_overtakes (HasCome Submission ∷ earlier) (run, comes) is =
    absurd (submitted (is_put_off earlier) (is_refused earlier) comes is)
nothing_overtakes (HasCome Posting ∷ earlier) (run, comes) is =
    absurd (posted (is_put_off earlier) (is_refused earlier) comes is)
