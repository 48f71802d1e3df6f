-- The laws of what is shown.
use Rattle.std.proofs.Common.{◌≡◌, ℕ, ◌+◌, ◌-◌, ◌%◌, ◌^◌, ◌<◌, ◌≤◌, [], ◌∷◌, arith}
use Rattle.std.proofs.Math.Pow.{mod-mod-pow}
use Rattle.uring_enter.specs.Completions.Showing.{Posted, Written, Reaped}
use Rattle.uring_enter.specs.Completions.ShowingLaws.{ShowsWhatWasPosted, StandsApart}

pub shows_what_was_posted : ShowsWhatWasPosted
shows_what_was_posted entries [] run = (omega arith, omega arith, omega arith)
shows_what_was_posted entries (Posted ∷ earlier) run = grind (arith, (shows_what_was_posted entries earlier run))
shows_what_was_posted entries (Written ∷ earlier) run = grind (arith, (shows_what_was_posted entries earlier run.0))
shows_what_was_posted entries (Reaped count ∷ earlier) run = grind (arith, (shows_what_was_posted entries earlier run.0))

-- numbers less than n apart have one remainder only where they are equal
pub same_remainder : (n a b : ℕ) → a ≤ b → b < a + n → a % n ≡ b % n → a ≡ b
same_remainder n a b ordered near same = grind arith

-- the cell of a position is that of its count
pub cell_of_position : (k x : ℕ) → k ≤ 32 → x % 2 ^ 32 % 2 ^ k ≡ x % 2 ^ k
cell_of_position k x fits = grind (arith, (mod-mod-pow x (32 - k) k))

pub stands_apart : StandsApart
stands_apart k log one other fits run low ordered high same =
    grind (arith, shows_what_was_posted, cell_of_position, same_remainder)
