use Rattle.std.proofs.Common.{◌≡◌, refl, inr, arith}
use Rattle.uring_entry.proofs.Powers.{double_rounded, rounded_once, rounded_within}
use Rattle.uring_entry.proofs.setup.completion_size.Goals as goal

pub returns-in_default-clause-some : goal.returns-in_default-clause-some
returns-in_default-clause-some c = rw c.in_default.is (double_rounded c.args.sq c.requires.0, omega arith, omega arith)

pub returns-then-size-sq-clause-none : goal.returns-then-size-sq-clause-none
returns-then-size-sq-clause-none c =
    let found = c.next_power_of_two-size.ensures in
    rw c.in-Some.is (
      λ _. inr (λ q rounded.
          let same : c.next_power_of_two-size.result ≡ q = rounded_once c.in-Some.asked _ q (found.power, found.lower_bound, found.upper_bound) rounded (omega arith) in
          omega arith),
      λ _. refl,
    )

pub returns-else-size-sq-clause-some : goal.returns-else-size-sq-clause-some
returns-else-size-sq-clause-some c =
    let found = c.next_power_of_two-size.ensures in
    rw c.in-Some.is (
      (found.power, found.lower_bound, found.upper_bound),
      omega arith,
      rounded_within c.in-Some.asked _ 8192 (found.power, found.lower_bound, found.upper_bound) (13, refl) (omega arith) (omega arith),
    )
