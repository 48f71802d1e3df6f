-- Whose ring a descriptor names, when it is looked whether rings are closed, and what a call does before it sleeps. Our own rules: a ring is of the process that made it, and not every close of a descriptor is heard.
use Rattle.std.specs.Prelude.{◌≡◌, ℕ, ℤ, Bool, true, false, not, ◌&&◌, ◌||◌, ◌==◌, nat_lt, nat_le, Option, Some, None, if◌then◌else◌}
use Rattle.uring_enter.specs.Waiting.Sleeping.{beginning_of}
use Rattle.uring_enter.specs.declared.waiting.sleeping.Beginning.TheVariants.{Wakes, Sleeps}
use Rattle.uring_enter.specs.declared.rings.closing.BeforeSleep.{BeforeSleep}
use Rattle.uring_enter.specs.declared.rings.closing.BeforeSleep.TheVariants.{LetsOthersGo, ReadsMask, DoesDuties}
use Rattle.uring_enter.specs.declared.rings.closing.SleepOnto.{SleepOnto}
use Rattle.uring_enter.specs.declared.rings.closing.SleepOnto.TheVariants.{Does, Begins}

-- a descriptor names a ring that its own process made, if it is open on it. To a child it names none, so that its call ends with -95 (EOPNOTSUPP): the core is its parent's
abbrev pub may_name : (maker process : ℕ) → Bool
may_name maker process = maker == process

-- whether something is known, and so
abbrev pub is_known : Option Bool → (is_so : Bool) → Bool
is_known None is_so = false
is_known (Some known) is_so = if is_so then known else not known

-- a ring is gone once it is known that no descriptor is open on it: in the table of the thread that looks, and in any that another thread has of its own (CLONE_FILES, clone(2) and unshare(2)), where the same number is another file's. It is kept, too, by whoever looks from another table than the one in which it was made: what it keeps open has its number there, and would be somebody else's here. Our own rule, as close(2) has it of a file
abbrev pub is_gone : (is_listed is_of_table is_elsewhere : Option Bool) → Bool
is_gone is_listed is_of_table is_elsewhere =
    is_known is_listed false && is_known is_of_table true && is_known is_elsewhere false

-- whether a ring was made in the table of descriptors of the thread that looks: the thread in whose table it was made has this one too; or, since a thread that has ended can't be asked, it was made in everybody's, and nobody is seen with another
abbrev pub was_made_here : (shares was_apart sees_apart : Bool) → Bool
was_made_here shares was_apart sees_apart = shares || not (was_apart || sees_apart)

-- in whichever table a descriptor is open, the ring stays
abbrev pub StaysWhileOpen : Type 0
StaysWhileOpen = (is_listed is_of_table is_elsewhere : Option Bool)
    → (is_gone (Some true) is_of_table is_elsewhere ≡ false)
    × (is_gone is_listed is_of_table (Some true) ≡ false)

-- of all rings
abbrev pub all_rings : ℕ
all_rings = 2147483647

-- of those that are looked at in their turn, round and round
abbrev pub a_few : ℕ
a_few = 8

-- a call that is to sleep looks at a few: what waits may wait for the end of a file that a closed ring keeps
abbrev pub looked_at_before_sleep : ℕ
looked_at_before_sleep = a_few

-- a call that ends looks at all where a ring may have been closed while a call was on it, since that goes with the call; else at a few, where there is more than one ring and it was last looked ten milliseconds ago
abbrev pub looked_at_after : (may_be_left : Bool) (rings elapsed : ℕ) → ℕ
looked_at_after may_be_left rings elapsed =
    if may_be_left then all_rings else
    if nat_le 2 rings && nat_le 10000000 elapsed then a_few else 0

-- the time matters to no other
abbrev pub asks_elapsed : (may_be_left : Bool) (rings : ℕ) → Bool
asks_elapsed may_be_left rings = not may_be_left && nat_le 2 rings

abbrev pub ElapsedMattersWhereAsked : Type 0
ElapsedMattersWhereAsked = (may_be_left : Bool) (rings one other : ℕ) → asks_elapsed may_be_left rings ≡ false
    → looked_at_after may_be_left rings one ≡ looked_at_after may_be_left rings other

-- whether the lock of all rings is tried once more after a close in a signal's handler, which was tried so often: a hundred times, with a moment for others between two. Who has it may wait for what the handler's own thread has, so that it would never get it: then whoever ends a call next looks
abbrev pub tries_again : (tries : ℕ) → Bool
tries_again tries = nat_lt tries 100

-- what is done before a call sleeps, in this order: rings that were closed let go what they have, and where one has, the call looks again, before any fault of its arguments counts; its mask is read; and what is due is done, after which a fault ends it, and what a poll was told has it look again
abbrev pub next_before_sleep : Option BeforeSleep → (has_brought : Bool) → ℤ → SleepOnto
next_before_sleep None has_brought fault = Does LetsOthersGo
next_before_sleep (Some LetsOthersGo) has_brought fault = if has_brought then Begins Wakes else Does ReadsMask
next_before_sleep (Some ReadsMask) has_brought fault = Does DoesDuties
next_before_sleep (Some DoesDuties) has_brought fault = Begins (beginning_of fault has_brought)

-- no call sleeps before all of that was done, or where the last has brought something
abbrev pub SleepsAfterAll : Type 0
SleepsAfterAll = (last : Option BeforeSleep) (has_brought : Bool) (fault : ℤ) → next_before_sleep last has_brought fault ≡ Begins Sleeps
    → (last ≡ Some DoesDuties) × (has_brought ≡ false)
