-- What is remembered of a descriptor's number, in words that C can read and keeps.
use Rattle.std.specs.Prelude.{ℕ, ◌==◌, if◌then◌else◌}
use Rattle.uring_operations.specs.declared.files.remembering.Remembered.{Remembered}
use Rattle.uring_operations.specs.declared.files.remembering.Remembered.TheVariants.{Nothing, File, InMemory, Slow}

-- it counts in the order of `Remembered`, from 0; a word that is none says that nothing is. Our own rule
abbrev pub word_of_remembered : Remembered → ℕ
word_of_remembered Nothing = 0
word_of_remembered File = 1
word_of_remembered InMemory = 2
word_of_remembered Slow = 3

abbrev pub remembered_of : ℕ → Remembered
remembered_of word =
    if word == 1 then File else
    if word == 2 then InMemory else
    if word == 3 then Slow else Nothing
