-- Effects of operations at any moment between the issue of a request and its finish. A kernel's operations have them so, where the core's files take each at the finish. io_uring_enter(2) says of no operation when it takes effect; that it is one moment is our own rule
use Rattle.std.specs.Prelude.{◌≡◌, ℕ, Bool, true, false, ◌==◌, List, [], ◌∷◌, ◌++◌, Option, Some, None, if◌then◌else◌}
use Rattle.uring_entry.specs.Setup.{Setup}
use Rattle.uring_entry.specs.Preparation.{operation_of}
use Rattle.uring_entry.specs.Requests.{Requests, entry_of, is_running}
use Rattle.uring_entry.specs.declared.operation.Op.{Op}
use Rattle.uring_entry.specs.declared.operation.Outcome.{Outcome}
use Rattle.uring_files.specs.Contents.{FileContents, empty_files}
use Rattle.uring_files.specs.Done.{Done, files_left}
use Rattle.uring_files.specs.Operations.{IsOutcome}
use Rattle.uring_core.specs.Histories.{Event, History, world, IsLawfulApart}
use Rattle.uring_core.specs.declared.step.Step.TheVariants as step
use Rattle.uring_core.specs.declared.answer.Answer.TheVariants as answer

-- what happens: a step is made and answered, or the operation of a request takes effect, with this outcome
pub data Happening : Type 0 where
  Makes : (event : Event) → Happening
  Takes : (n : ℕ) → (outcome : Outcome) → Happening

-- all that happened, the newest first
abbrev pub Timeline : Type 0
Timeline = List Happening

-- the steps alone
abbrev pub made_in : Timeline → History
made_in [] = []
made_in (Makes event ∷ before) = event ∷ made_in before
made_in (Takes n outcome ∷ before) = made_in before

-- the requests after a timeline
abbrev pub requests_in : Setup → Timeline → Requests
requests_in g t = (world g (made_in t)).requests

-- what the entry of a request asks for
abbrev pub operation_at : Setup → Timeline → ℕ → Op
operation_at g t n = operation_of (entry_of (requests_in g t) n)

-- the operations that took effect, in order
abbrev pub effects_in : Setup → Timeline → List Done
effects_in g [] = []
effects_in g (Makes event ∷ before) = effects_in g before
effects_in g (Takes n outcome ∷ before) =
    effects_in g before ++ record { number = n; op = operation_at g before n; outcome = outcome } ∷ []

-- the files as these effects left them, each empty at first
abbrev pub files_at : Setup → Timeline → List FileContents
files_at g t = files_left (empty_files g.files) (effects_in g t)

-- the outcome of a request's operation, if it has taken effect
abbrev pub effect_of : Timeline → ℕ → Option Outcome
effect_of [] n = None
effect_of (Makes event ∷ before) n = effect_of before n
effect_of (Takes m outcome ∷ before) n = if m == n then Some outcome else effect_of before n

-- The operation of a request takes effect: it runs, its operation has taken none yet, and the outcome is one that the files call for.
pub record TakesEffect (g : Setup) (before : Timeline) (n : ℕ) (outcome : Outcome) : Type 0 where
  pub runs : is_running (requests_in g before) n ≡ true
  pub first : effect_of before n ≡ None
  pub gives : IsOutcome (files_at g before) (operation_at g before n) outcome

-- a running request ends with the outcome with which its operation took effect
abbrev pub EndsAsTaken : Timeline → Event → Type 0
EndsAsTaken before (step.Finish n, answer.Ended res bytes) =
    effect_of before n ≡ Some (record { res = res; bytes = bytes })
EndsAsTaken before event = Unit {0}

-- each effect is taken by a running request once, and each ends by it
abbrev pub IsTimely : Setup → Timeline → Type 0
IsTimely g [] = Unit {0}
IsTimely g (Makes event ∷ before) = EndsAsTaken before event × IsTimely g before
IsTimely g (Takes n outcome ∷ before) = TakesEffect g before n outcome × IsTimely g before

-- A history that is lawful by early effects: apart from what operations gave, and each operation took effect at some moment between its issue and its finish, so that each result and its bytes are what the files gave at that moment. Those of requests that still run may have taken theirs or not.
pub record IsLawfulEarly (g : Setup) (h : History) : Type 0 where
  pub lawful : IsLawfulApart g h
  pub timeline : Timeline
  pub made : made_in timeline ≡ h
  pub timely : IsTimely g timeline

-- whether an event is the finish of this running request
abbrev pub is_end_of : ℕ → Event → Bool
is_end_of n (step.Finish m, answer.Ended res bytes) = n == m
is_end_of n event = false

-- whether an effect happened last
abbrev pub ends_in_effect : Timeline → Bool
ends_in_effect [] = false
ends_in_effect (Makes event ∷ before) = false
ends_in_effect (Takes n outcome ∷ before) = true

-- if an effect happened last, the event is the finish of its request
abbrev pub EndsLast : Timeline → Event → Type 0
EndsLast (Takes n outcome ∷ before) event = is_end_of n event ≡ true
EndsLast before event = Unit {0}

-- effects wait: no other step stands right after one than the finish of its own request
abbrev pub EffectsWait : Timeline → Type 0
EffectsWait [] = Unit {0}
EffectsWait (Makes event ∷ before) = EndsLast before event × EffectsWait before
EffectsWait (Takes n outcome ∷ before) = EffectsWait before
