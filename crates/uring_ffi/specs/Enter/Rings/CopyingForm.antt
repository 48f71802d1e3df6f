-- How a copy goes on, in words that C can read.
use Rattle.std.specs.Prelude.{ℕ, Option, Some, None, ◌==◌, if◌then◌else◌}
use Rattle.uring_enter.specs.declared.rings.copying.Way.{Way}
use Rattle.uring_enter.specs.declared.rings.copying.Way.TheVariants as way
use Rattle.uring_enter.specs.declared.rings.copying.CopyOnto.{CopyOnto}
use Rattle.uring_enter.specs.declared.rings.copying.CopyOnto.TheVariants as copy

-- ways count in the order of `Way`, from 0, and what ends a copy after them. Our own rule
abbrev pub word_of_copy : CopyOnto → ℕ
word_of_copy (copy.Goes way.Process) = 0
word_of_copy (copy.Goes way.Pipe) = 1
word_of_copy (copy.Goes way.Plain) = 2
word_of_copy copy.IsCopied = 3
word_of_copy copy.Fails = 4

-- what it has tried, by that word; None: nothing
abbrev pub way_of : ℕ → Option Way
way_of word =
    if word == 0 then Some way.Process else
    if word == 1 then Some way.Pipe else
    if word == 2 then Some way.Plain else None
