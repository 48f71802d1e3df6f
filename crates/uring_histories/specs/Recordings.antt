-- Glue. A history while it is recorded, and how far it has come with calls.
use Rattle.std.specs.Prelude.{◌≡◌, ℕ, zero, suc, true, false, List, [], ◌∷◌, ◌++◌, length, map, string_bytes}
use Rattle.std.specs.List.{AllByRecursion}
use Rattle.std.specs.declared.vec.Vec.{Vec}
use Rattle.std.specs.declared.alloc.Global.{Global}
use Rattle.uring_entry.specs.Setup.{Setup}
use Rattle.uring_entry.specs.Layout.{Cqe}
use Rattle.uring_entry.specs.Submission.{Published, with_entry, bad_word, published_items}
use Rattle.uring_entry.specs.Requests.{outstanding_in}
use Rattle.uring_core.specs.World.{World}
use Rattle.uring_core.specs.StepAnswers.{CalledForApart}
use Rattle.uring_core.specs.Histories.{History, world, history_of}
use Rattle.uring_core.specs.declared.step.Step.{Step}
use Rattle.uring_core.specs.declared.step.Step.TheVariants as step
use Rattle.uring_core.specs.declared.answer.Answer.{Answer}
use Rattle.uring_core.specs.declared.answer.Answer.TheVariants as answer
use Rattle.uring_machine.specs.Machine.{Fits}
use Rattle.uring_laws.specs.Standing.{Stands, item_steps}
use Rattle.uring_outcomes.specs.CallOutcomes.{RefusesNone, items_in}
use Rattle.uring_ports.specs.declared.item.Item.{Item}
use Rattle.uring_ports.specs.Items.{all_published_as}
use Rattle.uring_text.specs.Lines.{joined}
use Rattle.uring_trace.specs.Exchanges.{Exchange, IsReadAs, answers_of, events_of}
use Rattle.uring_histories.specs.declared.recording.Recording.{Recording}

-- This history was recorded: the machine fits it, no memory was refused in it, and the text is its steps with their answers.
pub record IsRecorded (g : Setup) (t : Recording) (h : History) : Type 0 where
  pub exchanges : List Exchange
  pub events : history_of (events_of exchanges) ≡ h
  pub setup : t.machine.core.setup ≡ g
  pub fits : Fits t.machine h
  pub refuses_none : RefusesNone g h
  pub each : AllByRecursion (λ x. IsReadAs x.line x.event) exchanges
  pub text : string_bytes t.text ≡ joined (answers_of true exchanges)

-- neither memory was refused nor were the numbers spent
abbrev pub IsPlain : Answer → Type 0
IsPlain a = (a ≡ answer.Again → ⊥) × (a ≡ answer.Spent → ⊥)

-- these steps were made after a history, the oldest first, and each was answered as it is called for
abbrev pub MadeAfter : Setup → History → List Step → History → Type 0
MadeAfter g h [] after = after ≡ h
MadeAfter g h (s ∷ later) after = (a : Answer) × CalledForApart g (world g h) s a × IsPlain a
    × MadeAfter g ((s, a) ∷ h) later after

-- they were made and recorded
pub record HasMade (g : Setup) (t : Recording) (h : History) (steps : List Step) : Type 0 where
  pub after : History
  pub recorded : IsRecorded g t after
  pub made : MadeAfter g h steps after

-- The steps of a call.

-- those for an item
abbrev pub steps_of_item : ℕ → Published → List Step
steps_of_item slot (with_entry entry) = step.Fill slot entry ∷ step.Index slot ∷ []
steps_of_item slot (bad_word word) = step.Index word ∷ []

-- so many positions are taken
abbrev pub take_steps : ℕ → List Step
take_steps zero = []
take_steps (suc n) = step.Take ∷ take_steps n

-- the items are staged and published; then a call opens, takes them and closes, and the application loads the head
abbrev pub call_steps : List Published → List Step
call_steps items =
    item_steps 0 items ++ ((step.StoreTail ∷ []) ++ ((step.Begin (length items) ∷ []) ++ (take_steps (length items) ++ ((step.End ∷ []) ++ (step.LoadHead ∷ [])))))

-- what was published of calls that vectors hold
abbrev pub published_in : List (Vec Item Global) → List (List Published)
published_in calls = map (λ call. all_published_as call.items) calls

-- A world between calls, in which these calls were taken: nothing was reaped.
pub record Between (w : World) (calls : List (List Published)) : Type 0 where
  pub stands : Stands w.submission [] 0
  pub is_open : w.is_closed ≡ false
  pub published : published_items w.submission ≡ items_in calls
  pub cut : w.submission.calls ≡ map length calls
  pub none_reaped : w.completions.reaped ≡ []

-- what was recorded stands there
pub record IsAmid (g : Setup) (t : Recording) (calls : List (List Published)) : Type 0 where
  pub history : History
  pub recorded : IsRecorded g t history
  pub between : Between (world g history) calls

-- A world in which these calls were taken, nothing is outstanding, and this was posted.
pub record Over (w : World) (calls : List (List Published)) (posted : List Cqe) : Type 0 where
  pub published : published_items w.submission ≡ items_in calls
  pub cut : w.submission.calls ≡ map length calls
  pub none_outstanding : outstanding_in w.requests ≡ 0
  pub posts : w.completions.posted ≡ posted

-- what was recorded stands there
pub record IsEnded (g : Setup) (t : Recording) (calls : List (List Published)) (posted : List Cqe) : Type 0 where
  pub history : History
  pub recorded : IsRecorded g t history
  pub over : Over (world g history) calls posted

-- a step that only shows completions
abbrev pub ShowsOnly : Step → Type 0
ShowsOnly step.Flush = Unit {0}
ShowsOnly step.LoadCqTail = Unit {0}
ShowsOnly step.Reap = Unit {0}
ShowsOnly step.StoreCqHead = Unit {0}
ShowsOnly _ = ⊥
