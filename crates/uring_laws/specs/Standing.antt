-- The submission ring as it stands between calls: what the application fills, stages and publishes, and what a call then takes, without a refusal.
use Rattle.std.specs.Prelude.{◌≡◌, ℕ, ◌+◌, ◌<◌, ◌≤◌, Bool, false, true, not, ◌&&◌, List, [], ◌∷◌, ◌++◌, length, Option, Some, None, is_some, All, ◌⊎◌, slice_get, if◌then◌else◌}
use Rattle.std.specs.List.{zip}
use Rattle.uring_entry.specs.Setup.{Setup}
use Rattle.uring_entry.specs.IndexWords.{word_of}
use Rattle.uring_entry.specs.Layout.{Sqe}
use Rattle.uring_entry.specs.Submission.{Submission, Place, taken, with_filled, with_staged, with_published, with_head_loaded, with_closed, entries_from, Published, with_entry, bad_word, published_items, IsItem}
use Rattle.uring_entry.specs.Requests.{with_call}
use Rattle.uring_rules.specs.Rules.{drains_called}
use Rattle.uring_core.specs.Stops.{stops_at_word}
use Rattle.uring_core.specs.World.{World, requests_of, happens}
use Rattle.uring_core.specs.StepAnswers.{CalledForApart, OrAgain, is_spent, place_answer}
use Rattle.uring_core.specs.Histories.{History, world, history_of, IsLawfulApart}
use Rattle.uring_core.specs.declared.step.Step.{Step}
use Rattle.uring_core.specs.declared.step.Step.TheVariants as step
use Rattle.uring_core.specs.declared.answer.Answer.{Answer}
use Rattle.uring_core.specs.declared.answer.Answer.TheVariants as answer

-- The ring stands between calls: these words are staged, no call is open, the application knows how many positions were taken, and so many that are published wait for a call.
pub record Stands (l : Submission) (words : List ℕ) (count : ℕ) : Type 0 where
  pub fresh : l.fresh ≡ words
  pub call : l.call ≡ None
  pub head : l.seen_head ≡ taken l
  pub waiting : taken l + count ≡ length l.published

-- Items go into it one by one: no position waits.

-- each slot of the ring is filled
abbrev pub FreeSlotIsFilled : Setup → Type 0
FreeSlotIsFilled g = (w : World) (words : List ℕ) (slot : ℕ) (entry : Sqe) (a : Answer)
    → Stands w.submission words 0 → slot < g.sq → CalledForApart g w (step.Fill slot entry) a
    → (a ≡ answer.Filled) × Stands (with_filled w.submission slot entry) words 0

-- each word is staged, until as many are as the ring has entries
abbrev pub WordIsStaged : Setup → Type 0
WordIsStaged g = (w : World) (words : List ℕ) (word : ℕ) (a : Answer) → Stands w.submission words 0
    → length words < g.sq → CalledForApart g w (step.Index word) a
    → (a ≡ answer.Staged) × Stands (with_staged w.submission word) (words ++ word ∷ []) 0

-- a store of the tail publishes them all
abbrev pub TailPublishes : Setup → Type 0
TailPublishes g = (l : Submission) (words : List ℕ) → Stands l words 0
    → Stands (with_published g.sq l) [] (length words)

-- an item for a slot: its entry fills the slot, and the slot's index is staged; a bad word is staged alone
abbrev pub with_item : Submission → ℕ → Published → Submission
with_item l slot (with_entry entry) = with_staged (with_filled l slot entry) slot
with_item l slot (bad_word word) = with_staged l word

-- items, each for its own slot from this one on
abbrev pub with_items : Submission → ℕ → List Published → Submission
with_items l slot [] = l
with_items l slot (item ∷ later) = with_items (with_item l slot item) (slot + 1) later

-- If nothing was staged before, exactly these items are published then.
abbrev pub ItemsArePublished : Type 0
ItemsArePublished = (l : Submission) (size : ℕ) (items : List Published) → l.fresh ≡ []
    → length items ≤ size → All (IsItem size) items
    → published_items (with_published size (with_items l 0 items)) ≡ published_items l ++ items

-- A call takes what waits.

-- the world with a call open, of so many positions, of which so many were taken
abbrev pub in_call : World → ℕ → ℕ → World
in_call w count done =
    record w { submission = record w.submission { call = Some (record { count = count; taken = done }) } }

-- a call of the positions that wait opens, or of fewer, unless memory is refused or the numbers are spent
abbrev pub CallOpens : Setup → Type 0
CallOpens g = (w : World) (count asked : ℕ) (a : Answer) → Stands w.submission [] count
    → w.is_closed ≡ false → asked ≤ count → CalledForApart g w (step.Begin asked) a
    → (OrAgain (answer.Call asked) a ⊎ ((a ≡ answer.Spent) × (is_spent w asked ≡ true)))
    × (happens g w (step.Begin asked) (answer.Call asked) ≡ in_call w asked 0)

-- whether a call ends after this position in a ring that goes on: by Linux's rules after a word that names no slot
abbrev pub ends_after : Setup → Option Place → Bool
ends_after g None = false
ends_after g (Some place) = not (is_some place.entry) && stops_at_word g

-- in a ring that goes on it takes its positions one by one, whatever their words and entries, and has no more than those taken once one ends it
abbrev pub PositionIsTaken : Setup → Type 0
PositionIsTaken g = g.stops ≡ false → (w : World) (count asked done : ℕ) (a : Answer)
    → Stands w.submission [] count → asked ≤ count → done < asked
    → CalledForApart g (in_call w asked done) step.Take a
    → (a ≡ place_answer (slice_get w.submission.published (taken w.submission + done)))
    × (happens g (in_call w asked done) step.Take a
    ≡ in_call w (if ends_after g (slice_get w.submission.published (taken w.submission + done)) then done + 1 else asked) (done + 1))

-- the world after such a call, once the application has loaded the head
abbrev pub after_call : Setup → World → ℕ → World
after_call g w count = record w {
  submission =
      with_head_loaded (with_closed w.submission (record { count = count; taken = count }));
  requests = with_call w.requests (entries_from w.submission count);
  drains = drains_called g.linux (requests_of w) (entries_from w.submission count);
}

-- it closes with all of them taken, and what is left waits for the next
abbrev pub CallCloses : Setup → Type 0
CallCloses g = (w : World) (count asked left : ℕ) (ended loads : Answer)
    → Stands w.submission [] count → asked + left ≡ count
    → CalledForApart g (in_call w asked asked) step.End ended
    → (happens g (happens g (in_call w asked asked) step.End ended) step.LoadHead loads ≡ after_call g w asked)
    × Stands (after_call g w asked).submission [] left

-- A whole call at once.

-- the steps for items, each for its own slot from this one on
abbrev pub item_steps : ℕ → List Published → List Step
item_steps slot [] = []
item_steps slot (with_entry entry ∷ later) =
    step.Fill slot entry ∷ step.Index slot ∷ item_steps (slot + 1) later
item_steps slot (bad_word word ∷ later) = step.Index word ∷ item_steps (slot + 1) later

-- and their answers: nothing is refused
abbrev pub item_answers : List Published → List Answer
item_answers [] = []
item_answers (with_entry entry ∷ later) = answer.Filled ∷ answer.Staged ∷ item_answers later
item_answers (bad_word word ∷ later) = answer.Staged ∷ item_answers later

-- the history after the steps for these items, with these answers
abbrev pub after_items : List Published → List Answer → History → History
after_items items answers before = history_of (zip (item_steps 0 items) answers) ++ before

-- How a whole call is answered, whose items are staged and published, and which is begun: no item is refused, the tail is after them, they are published as they are, and the call opens unless memory is refused or the numbers are spent.
pub record WholeCall (g : Setup) (before : History) (items : List Published) (answers : List Answer) (tail begun : Answer) : Type 0 where
  pub none_refused : answers ≡ item_answers items
  pub tail_is : tail
      ≡ answer.Tail (word_of g.start (length (world g before).submission.published + length items))
  pub are_published : All (IsItem g.sq) items
      → published_items (world g ((step.StoreTail, tail) ∷ after_items items answers before)).submission
      ≡ published_items (world g before).submission ++ items
  pub opens : OrAgain (answer.Call (length items)) begun
      ⊎ ((begun ≡ answer.Spent) × (is_spent (world g before) (length items) ≡ true))

-- A ring in which nothing is staged and no position waits takes every call of at most its size.
abbrev pub TakesWholeCall : Setup → Type 0
TakesWholeCall g =
    (before : History) (items : List Published) (answers : List Answer) (tail begun : Answer)
    → Stands (world g before).submission [] 0 → (world g before).is_closed ≡ false
    → length items ≤ g.sq
    → length answers ≡ length (item_steps 0 items)
    → IsLawfulApart g ((step.Begin (length items), begun) ∷ (step.StoreTail, tail) ∷ after_items items answers before)
    → WholeCall g before items answers tail begun
