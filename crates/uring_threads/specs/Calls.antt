-- The calls by which the dispatcher takes in what was submitted at once: our own rule. By the manual pages' rules it is one call. By Linux's a call ends after a word that names no slot, and the next takes what is left.
use Rattle.std.specs.Prelude.{◌≡◌, ℕ, zero, suc, ◌+◌, ◌<◌, Bool, true, false, ◌&&◌, nat_le, List, [], ◌∷◌, ◌++◌, length, map, flat_map, drop, sum, Some, replicate, if◌then◌else◌}
use Rattle.uring_entry.specs.Setup.{Setup}
use Rattle.uring_entry.specs.Submission.{Submission, Place, taken}
use Rattle.uring_core.specs.Stops.{stops_at_word}
use Rattle.uring_core.specs.World.{World}
use Rattle.uring_core.specs.declared.step.Step.{Step}
use Rattle.uring_core.specs.declared.step.Step.TheVariants as step
use Rattle.uring_laws.specs.Standing.{after_call, ends_after}
use Rattle.uring_ports.specs.declared.item.Item.{Item}
use Rattle.uring_ports.specs.declared.item.Item.TheVariants as item

-- the lengths of the calls that take these positions, of each of which is said whether a call ends after it; the first call took so many before
unfoldable pub calls_after : (ends : List Bool) → (before : ℕ) → List ℕ
calls_after [] zero = []
calls_after [] (suc before) = suc before ∷ []
calls_after (true ∷ later) before = suc before ∷ calls_after later 0
calls_after (false ∷ later) before = calls_after later (suc before)

-- whether a call ends after this item, in a ring that goes on
abbrev pub ends_after_item : Setup → Item → Bool
ends_after_item g (item.Entry entry) = false
ends_after_item g (item.Bad word) = nat_le g.sq word && stops_at_word g

-- the lengths of the calls that take these items
abbrev pub calls_of : Setup → List Item → List ℕ
calls_of g items = calls_after (map (ends_after_item g) items) 0

-- By the manual pages' rules one call takes in all the items of a call, unless it has none: it is as long as that was submitted.
abbrev pub KeepsLengths : Setup → Type 0
KeepsLengths g = g.linux ≡ false → (items : List Item) → 0 < length items
    → calls_of g items ≡ length items ∷ []

-- the lengths of the calls that take in calls that were submitted: by the manual pages' rules as they were submitted, by Linux's each cut after a word that names no slot
abbrev pub lengths_of : Setup → List (List Item) → List ℕ
lengths_of g calls = if g.linux then flat_map (calls_of g) calls else map length calls

-- whether a call ends after each of these positions
abbrev pub ends_of : Setup → List Place → List Bool
ends_of g places = map (λ place. ends_after g (Some place)) places

-- the lengths of the calls that take the positions that wait
abbrev pub calls_left : Setup → Submission → List ℕ
calls_left g l = calls_after (ends_of g (drop (taken l) l.published)) 0

-- the world after calls of these lengths, between which the application loads the head
unfoldable pub after_calls : Setup → World → List ℕ → World
after_calls g w [] = w
after_calls g w (count ∷ later) = after_calls g (after_call g w count) later

-- the steps of calls of these lengths, after which calls of those are left: each begins with all positions that are left, takes its own and closes, and the application loads the head
unfoldable pub calls_row : (made left : List ℕ) → List Step
calls_row [] left = []
calls_row (count ∷ later) left =
    step.Begin (count + (sum later + sum left))
    ∷ replicate count step.Take ++ step.End ∷ step.LoadHead ∷ calls_row later left

-- the next call that is left, if one is, is begun and doesn't open
unfoldable pub refused_row : List ℕ → List Step
refused_row [] = []
refused_row (count ∷ later) = step.Begin (count + sum later) ∷ []

-- Of calls of these lengths the first were made, and the next, if any is left, didn't open.
pub record AreBegun (calls : List ℕ) (steps : List Step) : Type 0 where
  pub made : List ℕ
  pub left : List ℕ
  pub all : made ++ left ≡ calls
  pub row : steps ≡ calls_row made left ++ refused_row left
