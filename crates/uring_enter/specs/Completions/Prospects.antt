-- When a ring's descriptor is readable. io_uring(7), for completions that wait; else our own rules.
use Rattle.std.specs.Prelude.{◌≡◌, ℕ, ◌+◌, ◌%◌, ◌^◌, ◌<◌, ◌≤◌, Bool, true, false, not, ◌||◌, List, if◌then◌else◌}
use Rattle.uring_enter.specs.declared.completions.readable.Prospect.{Prospect}
use Rattle.uring_enter.specs.declared.completions.readable.Readable.{Readable}
use Rattle.uring_enter.specs.declared.completions.readable.Readable.TheVariants.{IsNot, Is, AsksRequests, AsksTime}
use Rattle.uring_enter.specs.Completions.Showing.{Change, posted, waits}

-- whether a call would bring something: a request can go on, or time can pass so that a timeout ends. A kernel needs no call for either: the request ends by itself, and its completion makes the descriptor readable. And a call may bring something as long as the descriptor can't tell of all that requests wait for: whoever waits by it looks
abbrev pub may_come : Prospect → Bool
may_come p = p.is_untold || p.can_go_on || p.can_pass_time

-- a ring's descriptor is readable while completions wait for the application, whose head tells this count, or a call would bring something
abbrev pub is_readable : List Change → ℕ → Prospect → Bool
is_readable log n p = waits log n || may_come p

-- what is told where no completion waits, or asked next: nothing is asked that doesn't matter
abbrev pub told_by : Prospect → Readable
told_by p =
    if p.is_untold then Is else
    if not p.knows_requests then AsksRequests else
    if p.can_go_on then Is else
    if not p.knows_time then AsksTime else
    if p.can_pass_time then Is else IsNot

abbrev pub readable_of : List Change → ℕ → Prospect → Readable
readable_of log n p = if waits log n then Is else told_by p

-- so many completions were posted once, of which a word tells: fewer than 2^32 have come since
abbrev pub WereSoMany : List Change → (word n : ℕ) → Type 0
WereSoMany log word n = (n % 2 ^ 32 ≡ word) × (n ≤ posted log) × (posted log < n + 2 ^ 32)

-- what was asked of a prospect is so, and what needs no asking
pub record Fits (known p : Prospect) : Type 0 where
  pub untold : known.is_untold ≡ p.is_untold
  pub requests : known.knows_requests ≡ true → known.can_go_on ≡ p.can_go_on
  pub time : known.knows_time ≡ true → known.can_pass_time ≡ p.can_pass_time

-- whatever was asked before, what is told is whether the descriptor is readable by all that is so
abbrev pub TellsWhatIsSo : Type 0
TellsWhatIsSo = (log : List Change) (n : ℕ) (known p : Prospect) → Fits known p
    → (readable_of log n known ≡ Is → is_readable log n p ≡ true)
    × (readable_of log n known ≡ IsNot → is_readable log n p ≡ false)

-- nothing is asked twice
abbrev pub AsksOnce : Type 0
AsksOnce = (log : List Change) (n : ℕ) (known : Prospect)
    → (readable_of log n known ≡ AsksRequests → known.knows_requests ≡ false)
    × (readable_of log n known ≡ AsksTime → known.knows_time ≡ false)
