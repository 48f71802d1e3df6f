-- What waits after a completion that was put off, in words that C can read.
use Rattle.std.specs.Prelude.{ℕ, ◌==◌, if◌then◌else◌}
use Rattle.uring_enter.specs.declared.going_on.putting_off.Coming.{Coming}
use Rattle.uring_enter.specs.declared.going_on.putting_off.Coming.TheVariants.{Submission, Posting, End}
use Rattle.uring_enter.specs.declared.going_on.putting_off.Order.{Order}
use Rattle.uring_enter.specs.declared.going_on.putting_off.Order.TheVariants.{Comes, PostsFirst, Waits}

-- what is to come, by its word: kinds count in the order of `Coming`, from 0. Our own rule
abbrev pub coming_of : ℕ → Coming
coming_of word =
    if word == 0 then Submission else
    if word == 1 then Posting else End

-- kinds count in the order of `Order`, from 0. Our own rule
abbrev pub word_of_order : Order → ℕ
word_of_order Comes = 0
word_of_order PostsFirst = 1
word_of_order Waits = 2
