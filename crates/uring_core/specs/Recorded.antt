-- Answers that were recorded elsewhere: which ones are wanted if one is wrong, and what is so of a whole list of steps with their answers. All of it is our own rule.
use Rattle.std.specs.Prelude.{◌≡◌, ℕ, neg_ℤ, List, take, Some, ◌∷◌, ◌⊎◌, slice_get}
use Rattle.uring_entry.specs.Setup.{Setup}
use Rattle.uring_entry.specs.Requests.{no_bytes}
use Rattle.uring_entry.specs.declared.errno.TheConstants.{ENOMEM}
use Rattle.uring_core.specs.StepAnswers.{CalledForApart, IsEnded}
use Rattle.uring_core.specs.CalledFor.{CalledFor, IsLawful}
use Rattle.uring_core.specs.Histories.{Event, History, world, history_of, IsLawfulApart}
use Rattle.uring_core.specs.declared.step.Step.{Step}
use Rattle.uring_core.specs.declared.answer.Answer.{Answer}
use Rattle.uring_core.specs.declared.answer.Answer.TheVariants as answer
use Rattle.uring_core.specs.declared.wanted.Wanted.{Wanted}
use Rattle.uring_core.specs.declared.wanted.Wanted.TheVariants.{Only, CallOrAgain, AnyEnd, EndOrNoMemory}
use Rattle.uring_core.specs.declared.wanted.Refusal.{Refusal}
use Rattle.uring_core.specs.declared.wanted.Refusal.TheVariants.{Wrong, NoMemory}

-- the answers that are wanted
abbrev pub Meets : Wanted → Answer → Type 0
Meets (Only x) a = a ≡ x
Meets (CallOrAgain length) a = (a ≡ answer.Call length) ⊎ (a ≡ answer.Again)
Meets AnyEnd a = IsEnded a
Meets (EndOrNoMemory res) a =
    (a ≡ answer.Ended res no_bytes) ⊎ (a ≡ answer.Ended (neg_ℤ ENOMEM) no_bytes)

-- The answer isn't called for, and exactly those that are wanted are.
pub record IsWrong (Called : Answer → Type 0) (a : Answer) (wanted : Wanted) : Type 0 where
  pub not_called : Called a → ⊥
  pub called : (b : Answer) → Called b → Meets wanted b
  pub only : (b : Answer) → Meets wanted b → Called b

-- what a refusal says: the answer is wrong; or it is called for, and memory was refused to follow it
abbrev pub IsRefused : (Answer → Type 0) → Answer → Refusal → Type 0
IsRefused Called a (Wrong wanted) = IsWrong Called a wanted
IsRefused Called a NoMemory = Called a

-- one answer alone is called for
abbrev pub IsOneAnswer : (Answer → Type 0) → Type 0
IsOneAnswer Called = (a b : Answer) → Called a → Called b → a ≡ b

-- The history from which one goes on after a refusal: the one answer that was called for counts as given, and else the step counts as not made.
abbrev pub resumed : Step → Refusal → History → History
resumed s (Wrong (Only x)) h = (s, x) ∷ h
resumed s _ h = h

-- What stands before this place of a list of steps with their answers, the oldest first, is lawful, and the answer there is wrong.
pub record IsFirstWrong (Lawful : History → Type 0) (Called : History → Step → Answer → Type 0) (events : List Event) (place : ℕ) (wanted : Wanted) : Type 0 where
  pub event : Event
  pub is_there : slice_get events place ≡ Some event
  pub before : Lawful (history_of (take place events))
  pub wrong : IsWrong (Called (history_of (take place events)) event.0) event.1 wanted

-- the first wrong answer, with what operations give
abbrev pub IsFirstWrongAnswer : Setup → List Event → ℕ → Wanted → Type 0
IsFirstWrongAnswer g events place wanted =
    IsFirstWrong (IsLawful g) (λ h s a. CalledFor g (world g h) s a) events place wanted

-- the first wrong answer, apart from what operations give
abbrev pub IsFirstWrongApart : Setup → List Event → ℕ → Wanted → Type 0
IsFirstWrongApart g events place wanted =
    IsFirstWrong (IsLawfulApart g) (λ h s a. CalledForApart g (world g h) s a) events place wanted
