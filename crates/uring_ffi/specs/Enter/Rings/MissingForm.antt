-- What isn't found, in words that C can read.
use Rattle.std.specs.Prelude.{ℕ, ℤ, pos, Option, Some, None, ◌==◌, if◌then◌else◌}
use Rattle.uring_enter.specs.declared.rings.missing.Missing.{Missing}
use Rattle.uring_enter.specs.declared.rings.missing.Missing.TheVariants as missing
use Rattle.uring_enter.specs.Rings.Missing.{missing_fault}

-- kinds count in the order of `Missing`, from 0; another word names nothing. Our own rule
abbrev pub missing_of : ℕ → Option Missing
missing_of word =
    if word == 0 then Some missing.File else
    if word == 1 then Some missing.Buffer else
    if word == 2 then Some missing.Memory else
    if word == 3 then Some missing.OwnMemory else
    if word == 4 then Some missing.PathEnd else
    if word == 5 then Some missing.Room else
    if word == 6 then Some missing.Provided else
    if word == 7 then Some missing.Request else None

-- nothing has no fault
abbrev pub missing_fault_of : Option Missing → ℤ
missing_fault_of None = pos 0
missing_fault_of (Some what) = missing_fault what
