-- What becomes of a registered file or buffer, in words that C can read.
use Rattle.std.specs.Prelude.{ℕ}
use Rattle.uring_register.specs.declared.tables.uses.Ending.{Ending}
use Rattle.uring_register.specs.declared.tables.uses.Ending.TheVariants.{Stays, Goes, Tells}

-- kinds count in the order of `Ending`, from 0. Our own rule
abbrev pub word_of_ending : Ending → ℕ
word_of_ending Stays = 0
word_of_ending Goes = 1
word_of_ending Tells = 2
