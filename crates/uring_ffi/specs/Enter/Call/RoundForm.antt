-- What comes of the rounds of a call, in words that C can read.
use Rattle.std.specs.Prelude.{ℤ, Bool, true, false, Option, Some, None}

-- there is one more round where the submission has come to nothing yet
abbrev pub goes_on : Option ℤ → Bool
goes_on None = true
goes_on (Some _) = false

abbrev pub submitted_of : Option ℤ → ℤ → ℤ
submitted_of None old = old
submitted_of (Some count) old = count
