-- Glue. What a reading keeps of the lines that it took in.
use Rattle.std.specs.Prelude.{◌≡◌, ◌≢◌, ℕ, ◌+◌, ◌^◌, ◌<◌, Bool, true, false, List, [], ◌∷◌, ◌++◌, if◌then◌else◌, Some, slice_get, reverse}
use Rattle.std.specs.List.{AllByRecursion}
use Rattle.uring_entry.specs.Layout.{Cqe}
use Rattle.uring_entry.specs.Setup.{Setup}
use Rattle.uring_core.specs.Core.{Core, FitsApart}
use Rattle.uring_core.specs.Histories.{Event, History, world, history_of, IsLawfulApart}
use Rattle.uring_core.specs.StepAnswers.{CalledForApart}
use Rattle.uring_core.specs.declared.answer.Answer.{Answer}
use Rattle.uring_core.specs.declared.answer.Answer.TheVariants as answer
use Rattle.uring_core.specs.declared.step.Step.{Step}
use Rattle.uring_core.specs.declared.step.Step.TheVariants as step
use Rattle.uring_text.specs.Remarks.{is_remark}
use Rattle.uring_trace.specs.Text.{text_of}
use Rattle.uring_check.specs.Records.{IsRecord, IsNoRecord, IsPassed}
use Rattle.uring_reconstruct.specs.Filling.{is_hidden}
use Rattle.uring_observed_text.specs.Seen.{visible, IsBare, Shows, AreShown}
use Rattle.uring_observed_text.specs.declared.reading.Done.{Done}
use Rattle.uring_observed_text.specs.declared.reading.Done.TheVariants as done
use Rattle.uring_observed_text.specs.declared.sight.Sight.{Sight}
use Rattle.uring_observed_text.specs.declared.sight.Sight.TheVariants as sight

-- the submission ring and the calls alone tell the answer to this step, but for memory that is refused
abbrev pub is_submitting : Step → Bool
is_submitting (step.Issue n) = false
is_submitting (step.Finish n) = false
is_submitting step.Flush = false
is_submitting step.LoadCqTail = false
is_submitting step.Reap = false
is_submitting step.StoreCqHead = false
is_submitting step.Next = false
is_submitting _ = true

-- the text alone tells the answer to it
abbrev pub IsGuessed : Step → Type 0
IsGuessed step.LoadCqTail = Unit {0}
IsGuessed step.Reap = Unit {0}
IsGuessed step.StoreCqHead = Unit {0}
IsGuessed step.Next = Unit {0}
IsGuessed s = ⊥

-- such an answer may be called for to it
abbrev pub IsGuess : Step → Answer → Type 0
IsGuess step.LoadCqTail (answer.Tail word) = Unit {0}
IsGuess step.StoreCqHead (answer.Head word) = Unit {0}
IsGuess step.Reap (answer.Reaped c) = Unit {0}
IsGuess step.Reap answer.Nothing = Unit {0}
IsGuess step.Next (answer.Next n) = Unit {0}
IsGuess step.Next answer.Nothing = Unit {0}
IsGuess s a = ⊥

-- those of its events that the submission ring and the calls alone tell
abbrev pub submitted : History → History
submitted [] = []
submitted (e ∷ before) = if is_submitting e.0 then e ∷ submitted before else submitted before

-- a lawful history of which these events were seen may go on so
pub record MayShow (g : Setup) (seen : History) (s : Step) (a : Answer) : Type 0 where
  pub h : History
  pub lawful : IsLawfulApart g h
  pub shows : visible h ≡ seen
  pub called : CalledForApart g (world g h) s a

-- any such answer of this text is this one
abbrev pub IsOnly : Setup → History → Step → List ℕ → Answer → Type 0
IsOnly g seen s text a = (b : Answer) → MayShow g seen s b → text_of b ≡ text → IsBare s b → b ≡ a

-- there is no such answer of this text
abbrev pub HasNoAnswer : Setup → History → Step → List ℕ → Type 0
HasNoAnswer g seen s text = (b : Answer) → MayShow g seen s b → text_of b ≡ text → IsBare s b → ⊥

-- what an answer comes to that was tried
abbrev pub IsFollowed : Core → History → Step → Answer → Sight → Type 0
IsFollowed core h s a (sight.Shown t b) = (t ≡ s) × (b ≡ a) × FitsApart core ((s, a) ∷ h)
IsFollowed core h s a sight.Wrong = CalledForApart core.setup (world core.setup h) s a → ⊥
IsFollowed core h s a _ = ⊥

-- what an answer comes to of which this may be the text
abbrev pub IsShownIf : Step → Answer → List ℕ → Sight → Type 0
IsShownIf s a text (sight.Shown t b) = (t ≡ s) × (b ≡ a) × (text_of a ≡ text)
IsShownIf s a text sight.Wrong = text_of a ≡ text → ⊥
IsShownIf s a text _ = ⊥

-- the one answer of this text that is called for, or that none is
abbrev pub IsAnsweredAs : Core → History → Step → List ℕ → Sight → Type 0
IsAnsweredAs core h s text (sight.Shown t a) = (t ≡ s) × (text_of a ≡ text)
    × ((b : Answer) → CalledForApart core.setup (world core.setup h) s b → text_of b ≡ text → b ≡ a)
    × FitsApart core ((s, a) ∷ h)
IsAnsweredAs core h s text sight.Wrong =
    (b : Answer) → CalledForApart core.setup (world core.setup h) s b → text_of b ≡ text → ⊥
IsAnsweredAs core h s text _ = ⊥

-- What was made of a step with the text of an answer after these events, and what the core fits then.
abbrev pub IsSeenAs : Core → History → Step → List ℕ → Sight → Type 0
IsSeenAs core seen s text (sight.Shown s' a) =
    (s' ≡ s) × (text_of a ≡ text) × (is_hidden s ≡ false) × IsBare s a
    × IsOnly core.setup seen s text a × FitsApart core (submitted ((s, a) ∷ seen))
IsSeenAs core seen s text sight.Wrong = HasNoAnswer core.setup seen s text
IsSeenAs core seen s text sight.Hidden = is_hidden s ≡ true
IsSeenAs core seen s text _ = ⊥

-- What was made of a line after these events.
abbrev pub IsSight : Core → History → List ℕ → Sight → Type 0
IsSight core seen line sight.Passed = IsPassed line × FitsApart core (submitted seen)
IsSight core seen line (sight.Shown s a) = Shows line (s, a)
    × IsOnly core.setup seen s (text_of a) a × FitsApart core (submitted ((s, a) ∷ seen))
IsSight core seen line sight.Wrong =
    (s : Step) × (text : List ℕ) × IsRecord line s text × HasNoAnswer core.setup seen s text
IsSight core seen line sight.Hidden =
    (s : Step) × (text : List ℕ) × IsRecord line s text × (is_hidden s ≡ true)
IsSight core seen line sight.Bad = IsNoRecord line × (is_remark line ≡ false)

-- what was made of a line that is no step with an answer
abbrev pub IsSightOfNone : List ℕ → Sight → Type 0
IsSightOfNone line sight.Passed = is_remark line ≡ true
IsSightOfNone line sight.Bad = is_remark line ≡ false
IsSightOfNone line _ = ⊥

-- the lines show these events, both the newest first, and are all that a lawful history shows of which they are the lines
pub record Reads (g : Setup) (lines : List (List ℕ)) (seen : History) : Type 0 where
  pub shown : AreShown lines seen
  pub only : (h : History) → IsLawfulApart g h → AreShown lines (visible h) → visible h ≡ seen

-- what stands before and after the first blank of a text
pub record IsParted (text before after : List ℕ) : Type 0 where
  pub whole : text ≡ before ++ 32 ∷ after
  pub first : AllByRecursion (λ b. b ≢ 32) before

-- the text has no blank
abbrev pub IsUnparted : List ℕ → Type 0
IsUnparted text = AllByRecursion (λ b. b ≢ 32) text

-- the text is that of a completion without data
pub record IsCompletion (text : List ℕ) (c : Cqe) : Type 0 where
  pub text_is : text_of (answer.Reaped c) ≡ text
  pub bare : IsBare step.Reap (answer.Reaped c)

-- it is that of none
abbrev pub IsNoCompletion : List ℕ → Type 0
IsNoCompletion text = (c : Cqe) → IsCompletion text c → ⊥

-- no lawful history shows what the lines show, the newest of them first
abbrev pub ShowsNever : Setup → List (List ℕ) → Type 0
ShowsNever g lines = (h : History) → IsLawfulApart g h → AreShown lines (visible h) → ⊥

-- the line of this place is a step that can't be seen from outside
abbrev pub IsHiddenLine : List (List ℕ) → ℕ → Type 0
IsHiddenLine lines place = (line : List ℕ) × (slice_get lines place ≡ Some line)
    × ((s : Step) × (text : List ℕ) × IsRecord line s text × (is_hidden s ≡ true))

-- the line of this place isn't in the language
abbrev pub IsBadLine : List (List ℕ) → ℕ → Type 0
IsBadLine lines place = (line : List ℕ) × (slice_get lines place ≡ Some line) × IsNoRecord line
    × (is_remark line ≡ false)

-- What was read of lines, the oldest first.
abbrev pub IsRead : Setup → List (List ℕ) → List Event → Done → Type 0
IsRead g lines events done.All = Reads g (reverse lines) (history_of events)
IsRead g lines events (done.Wrong place) = ShowsNever g (reverse lines)
IsRead g lines events (done.Hidden place) = IsHiddenLine lines place × (place + 1 < 2 ^ 64)
IsRead g lines events (done.Bad place) = IsBadLine lines place × (place + 1 < 2 ^ 64)

-- each of these lines shows the event of its place
abbrev pub ArePaired : List (List ℕ) → List Event → Type 0
ArePaired [] [] = Unit {0}
ArePaired (line ∷ lines) (event ∷ events) = Shows line event × ArePaired lines events
ArePaired _ _ = ⊥
