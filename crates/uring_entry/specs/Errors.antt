-- Results that are errors. io_uring(7), DESCRIPTION: such a result is the negative of an error number.
use Rattle.std.specs.Prelude.{ℕ, ℤ, pos, negsuc, ◌-ℤ◌, Bool, true, false}

-- the negative of an error number
abbrev pub error : ℕ → ℤ
error number = pos 0 -ℤ pos number

-- whether a result is an error
abbrev pub is_below : ℤ → Bool
is_below (pos _) = false
is_below (negsuc _) = true
