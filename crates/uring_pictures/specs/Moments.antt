-- The moment after some line of a trace. Our own rule.
use Rattle.std.specs.Prelude.{ℕ, Bool, true, nat_le, List, [], ◌∷◌, length, Option, Some, None, if◌then◌else◌}
use Rattle.uring_trace.specs.Explanations.{line_number}

-- whether the line with this number counts: it stands up to that of `at`, if there is one
abbrev pub does_count : Option ℕ → ℕ → Bool
does_count None number = true
does_count (Some at) number = nat_le number at

-- of lines, the newest first, those that count
abbrev pub up_to : Option ℕ → List (List ℕ) → List (List ℕ)
up_to at [] = []
up_to at (line ∷ before) =
    if does_count at (line_number (length before)) then line ∷ up_to at before else
    up_to at before
