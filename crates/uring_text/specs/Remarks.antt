-- Lines that say nothing to the machine. Our own rule.
use Rattle.std.specs.Prelude.{ℕ, ◌==◌, Bool, true, List, [], ◌∷◌}

-- whether a line is a remark: it is empty, or begins with `#`
abbrev pub is_remark : List ℕ → Bool
is_remark [] = true
is_remark (b ∷ rest) = b == 35
