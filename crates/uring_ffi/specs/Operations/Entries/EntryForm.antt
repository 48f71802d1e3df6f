-- What an entry is to the core, in words that C can read.
use Rattle.std.specs.Prelude.{ℕ, ℤ, pos}
use Rattle.uring_operations.specs.declared.entries.form.Form.{Form}
use Rattle.uring_operations.specs.declared.entries.form.Form.TheVariants.{Token, Cancel, Refused}

-- kinds count in the order of `Form`, from 0. Our own rule
abbrev pub word_of_form : Form → ℕ
word_of_form Token = 0
word_of_form Cancel = 1
word_of_form (Refused _) = 2

abbrev pub fault_of_form : Form → ℤ
fault_of_form (Refused fault) = fault
fault_of_form _ = pos 0
