-- What is logged of a request, and where a write begins, in words that C can read.
use Rattle.std.specs.Prelude.{ℕ}
use Rattle.uring_operations.specs.declared.files.logging.Begins.{Begins}
use Rattle.uring_operations.specs.declared.files.logging.Begins.TheVariants.{AtOffset, AtPosition, AtEnd}
use Rattle.uring_operations.specs.declared.files.logging.Logged.{Logged}
use Rattle.uring_operations.specs.declared.files.logging.Logged.TheVariants.{Nothing, Write, Sync}
use Rattle.uring_operations.specs.declared.files.logging.LoggedOpen.{LoggedOpen}
use Rattle.uring_operations.specs.declared.files.logging.LoggedOpen.TheVariants.{Plain, Names, Nameless, Cuts}

-- kinds count in the order of `Logged`, from 0. Our own rule
abbrev pub word_of_logged : Logged → ℕ
word_of_logged Nothing = 0
word_of_logged Write = 1
word_of_logged Sync = 2

-- places count in the order of `Begins`, from 0. Our own rule
abbrev pub word_of_begins : Begins → ℕ
word_of_begins AtOffset = 0
word_of_begins AtPosition = 1
word_of_begins AtEnd = 2

-- what an open does counts in the order of `LoggedOpen`, from 0. Our own rule
abbrev pub word_of_open : LoggedOpen → ℕ
word_of_open Plain = 0
word_of_open Names = 1
word_of_open Nameless = 2
word_of_open Cuts = 3
