-- What is known, or isn't, in words that C can read.
use Rattle.std.specs.Prelude.{Bool, Option, Some, None, if◌then◌else◌}

-- what is known, if it is
abbrev pub known_of : {A : Type 0} → Bool → A → Option A
known_of knows what = if knows then Some what else None
