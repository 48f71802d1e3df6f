-- Glue. What a form with values writes, where a clause of ours says it of each value.
use Rattle.std.specs.Prelude.{ℕ, Bool, true, false, ◌&&◌, nat_lt, nat_eq, List, [], ◌∷◌, ◌++◌, Some, if◌then◌else◌}
use Rattle.std.specs.Fmt.{decimal, signed_decimal}
use Rattle.uring_entry.specs.Layout.{has}
use Rattle.uring_text.specs.Forms.{operation_text}
use Rattle.uring_trace.specs.Reasons.{why_text}
use Rattle.uring_pictures.specs.declared.form_text.Value.{Value}
use Rattle.uring_pictures.specs.declared.form_text.Value.TheVariants as value

-- what a value writes, where it is known
abbrev pub value_text : Value → List ℕ
value_text (value.Number n) = decimal n
value_text (value.Signed n) = signed_decimal n
value_text (value.Text more) = more.now
value_text (value.Operation e) = operation_text e.now
value_text (value.Flag e flag name) = if has flag.0 e.now then name.now else []
value_text (value.Member name (Some n)) = name.now ++ decimal n
value_text (value.Reason why) = why_text why
value_text _ = []

abbrev pub is_known : Value → Bool
is_known (value.Number n) = true
is_known (value.Signed n) = true
is_known (value.Text more) = true
is_known (value.Operation e) = true
is_known (value.Flag e flag name) = true
is_known (value.Member name number) = true
is_known (value.Reason why) = true
is_known _ = false

-- the next value, which a mark (64) stands for, and those after it
abbrev pub first_text : List Value → List ℕ
first_text [] = []
first_text (v ∷ more) = value_text v

abbrev pub is_first_known : List Value → Bool
is_first_known [] = true
is_first_known (v ∷ more) = is_known v

abbrev pub others : List Value → List Value
others [] = []
others (v ∷ more) = more

-- a form with its values
abbrev pub form_text : List ℕ → List Value → List ℕ
form_text [] values = []
form_text (b ∷ rest) values =
    if nat_eq b 64 then first_text values ++ form_text rest (others values) else b ∷ form_text rest values

-- whether it is ASCII, and its values are known
abbrev pub is_told : List ℕ → List Value → Bool
is_told [] values = true
is_told (b ∷ rest) values =
    if nat_eq b 64 then is_first_known values && is_told rest (others values) else nat_lt b 128 && is_told rest values
