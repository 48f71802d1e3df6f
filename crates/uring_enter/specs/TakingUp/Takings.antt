-- Which positions of the submission ring a call takes, by what stood at those that it has taken, the newest first. io_uring(7), Submitting I/O requests; io_uring_setup(2), IORING_SETUP_SUBMIT_ALL; io_uring_enter(2), to_submit; but where the kernel is named.
use Rattle.std.specs.Prelude.{◌≡◌, ℕ, ℤ, pos, ◌+◌, ◌-◌, ◌%◌, ◌^◌, Bool, false, not, ◌&&◌, ◌||◌, ◌==◌, nat_lt, min, max, length, List, [], ◌∷◌, if◌then◌else◌}
use Rattle.std.specs.Int.RustNames.{bit_and}
use Rattle.uring_enter.specs.declared.taking_up.taking.Submitting.{Submitting}
use Rattle.uring_enter.specs.declared.taking_up.taking.Item.{Item}
use Rattle.uring_enter.specs.declared.taking_up.taking.Taking.{Taking}
use Rattle.uring_enter.specs.declared.taking_up.taking.Onward.{Onward}
use Rattle.uring_enter.specs.declared.taking_up.taking.Onward.TheVariants.{Takes, IsFull, HasEnded}
use Rattle.uring_entry.specs.Errors.{error}

-- how many positions are published: head and tail are words that wrap, and there are no more than the ring has entries
abbrev pub published : Submitting → ℕ
published a = min ((a.tail + 2 ^ 32 - a.head) % 2 ^ 32) a.entries

-- how many a call takes at most: those that are published, and no more than it is asked for. But what the core was given by an earlier call, which memory was refused, is taken whole. That is our own rule
abbrev pub most : Submitting → ℕ
most a = min (max a.to_submit a.given) (published a)

-- what ends a call: a word that names no slot; and an entry with a fault, unless the ring submits all, or the entry links the next, so that its chain is taken whole. Both are what the kernel does
abbrev pub ends : Bool → Item → Bool
ends submits_all i = not i.is_entry || i.is_faulty && not submits_all && not i.links

abbrev pub has_ended : Bool → List Item → Bool
has_ended submits_all [] = false
has_ended submits_all (i ∷ earlier) = ends submits_all i || has_ended submits_all earlier

-- whether a call takes one more: nothing that it has taken ends it, and it hasn't taken the most
abbrev pub takes_more : Submitting → List Item → Bool
takes_more a taken = not (has_ended a.submits_all taken) && nat_lt (length taken) (most a)

-- the cell of the word at the position after those: positions are taken from the head on, each once
abbrev pub cell_of : Submitting → List Item → ℕ
cell_of a taken = bit_and ((a.head + length taken) % 2 ^ 32) (a.entries - 1)

abbrev pub next_of : Submitting → List Item → Onward
next_of a taken =
    if has_ended a.submits_all taken then HasEnded else
    if takes_more a taken then Takes (cell_of a taken) else IsFull

-- where memory is refused for a position, the call submits those before it, and ends with -11 (EAGAIN) if there are none: io_uring_enter(2), ERRORS; what the kernel does. Where the core is refused it for what it is given, the call ends so too; that stays staged, and the next one goes on with it: our own rule
abbrev pub refusal_fault : (staged : ℕ) → (is_core : Bool) → ℤ
refusal_fault staged is_core = if is_core || staged == 0 then error 11 else pos 0

-- how many more a call takes, if none of them ends it
abbrev pub left_of : Submitting → List Item → ℕ
left_of a taken = if has_ended a.submits_all taken then 0 else most a - length taken

-- glue: what is kept of a call that has taken these
pub record KeepsTaking (a : Submitting) (taken : List Item) (t : Taking) : Type 0 where
  pub next : t.next ≡ (a.head + length taken) % 2 ^ 32
  pub mask : t.mask ≡ a.entries - 1
  pub left : t.left ≡ left_of a taken
  pub submits_all : t.submits_all ≡ a.submits_all
