-- What a row of a list does, in words that C can read, and what a call is refused for whose number C gives.
use Rattle.std.specs.Prelude.{ℕ, ℤ, pos, Bool, ◌==◌, Option, Some, None, if◌then◌else◌}
use Rattle.uring_register.specs.declared.tables.registering.Row.{Row}
use Rattle.uring_register.specs.declared.tables.registering.Row.TheVariants.{Keeps, Empties, Fills, Refused}
use Rattle.uring_register.specs.declared.calls.call.Call.{Call}
use Rattle.uring_register.specs.declared.calls.call.Content.{Content}
use Rattle.uring_register.specs.Calls.Calling.{argument_fault, content_fault}
use Rattle.uring_entry.specs.Errors.{error}

-- kinds count in the order of `Row`, from 0. Our own rule
abbrev pub word_of_row : Row → ℕ
word_of_row Keeps = 0
word_of_row Empties = 1
word_of_row Fills = 2
word_of_row (Refused _) = 3

-- what a row does, by that word
abbrev pub row_of_word : ℕ → Row
row_of_word word =
    if word == 0 then Keeps else
    if word == 1 then Empties else
    if word == 2 then Fills else Refused (pos 0)

abbrev pub fault_of_row : Row → ℤ
fault_of_row (Refused fault) = fault
fault_of_row _ = pos 0

-- -22 (EINVAL) of a call that isn't served. Our own rule
abbrev pub argument_fault_of : Option Call → Bool → ℕ → ℤ
argument_fault_of None has_argument count = error 22
argument_fault_of (Some call) has_argument count = argument_fault call has_argument count

abbrev pub content_fault_of : Option Call → Bool → Content → ℤ
content_fault_of None is_read c = error 22
content_fault_of (Some call) is_read c = content_fault call is_read c
