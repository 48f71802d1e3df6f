-- What was seen of a ring, as lines, and the histories that show it.
use Rattle.std.specs.Prelude.{◌≡◌, ℕ, ◌<◌, ◌^◌, ◌⊎◌, false, List, [], ◌∷◌, if◌then◌else◌}
use Rattle.uring_entry.specs.Setup.{Setup}
use Rattle.uring_entry.specs.Requests.{no_bytes}
use Rattle.uring_core.specs.Histories.{Event, History}
use Rattle.uring_core.specs.declared.answer.Answer.{Answer}
use Rattle.uring_core.specs.declared.answer.Answer.TheVariants as answer
use Rattle.uring_core.specs.declared.step.Step.{Step}
use Rattle.uring_core.specs.declared.step.Step.TheVariants as step
use Rattle.uring_text.specs.Spelling.{IsFile}
use Rattle.uring_trace.specs.Text.{text_of}
use Rattle.uring_check.specs.Records.{IsRecord, IsPassed}
use Rattle.uring_reconstruct.specs.Filling.{is_hidden, seen_in, IsFilling}

-- what is seen of a history, the newest first
abbrev pub visible : History → History
visible [] = []
visible (e ∷ before) = if is_hidden e.0 then visible before else e ∷ visible before

-- The numbers of an answer have the sizes of those that a program sees, and a completion has no data, as of a ring without files. Asked of what the dispatcher tells alone, which is our own rule
abbrev pub IsBare : Step → Answer → Type 0
IsBare step.LoadCqTail (answer.Tail word) = word < 2 ^ 32
IsBare step.StoreCqHead (answer.Head word) = word < 2 ^ 32
IsBare step.Next (answer.Next n) = n < 2 ^ 64
IsBare step.Reap (answer.Reaped c) =
    (c.user_data < 2 ^ 64) × IsFile c.res × (c.payload ≡ no_bytes)
IsBare s a = Unit {0}

-- the line shows the event: a step that can be seen from outside, with the text of its answer
pub record Shows (line : List ℕ) (event : Event) : Type 0 where
  pub text : IsRecord line event.0 (text_of event.1)
  pub seen : is_hidden event.0 ≡ false
  pub bare : IsBare event.0 event.1

-- the lines show these events, one each, both the newest first; a line that is passed over shows none
abbrev pub AreShown : List (List ℕ) → History → Type 0
AreShown [] events = events ≡ []
AreShown (line ∷ before) events =
    (IsPassed line × AreShown before events)
    ⊎ ((event : Event) × (past : History) × (events ≡ event ∷ past) × Shows line event × AreShown before past)

-- A history that shows exactly what the lines show, the newest of them first: it is lawful apart from what operations give, each operation gave what it may give, each request has ended, and each completion that was posted has been reaped.
pub record Fills (g : Setup) (lines : List (List ℕ)) (h : History) : Type 0 where
  pub filling : IsFilling g (seen_in h) h
  pub shown : AreShown lines (visible h)
