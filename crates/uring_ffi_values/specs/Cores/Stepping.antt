-- What a call makes of what a place holds.
use Rattle.std.specs.Prelude.{◌≡◌, ℕ, ℤ, ◌∷◌, Option, IsSomeAnd, replicate}
use Rattle.uring_entry.specs.declared.operation.Outcome.{Outcome}
use Rattle.uring_entry.specs.Setup.{Setup}
use Rattle.uring_core.specs.CalledFor.{CalledFor, files_of}
use Rattle.uring_core.specs.Core.{Core, FitsApart, IsFinished, IsShortOfMemory, HasNoLessMemory}
use Rattle.uring_core.specs.World.{World}
use Rattle.uring_core.specs.Histories.{History, world}
use Rattle.uring_machine.specs.Machine.{Machine, Fits, finish_answer}
use Rattle.uring_core.specs.declared.answer.Answer.{Answer}
use Rattle.uring_core.specs.declared.answer.Answer.TheVariants as answer
use Rattle.uring_core.specs.declared.step.Step.{Step}
use Rattle.uring_core.specs.declared.step.Step.TheVariants as step
use Rattle.uring_ffi_values.specs.CoreWords.AnswerForm.{words_of, kind_of, word_of, number_of, res_of, IsAgain}
use Rattle.uring_ffi_values.specs.declared.core_words.answer_words.AnswerWords.{AnswerWords}

-- A core has made this step, and answered so: it fits every history that it did, followed by both.
pub record SteppedApart (s : Step) (a : Answer) (old new : Core) : Type 0 where
  pub setup : new.setup ≡ old.setup
  pub fits : (h : History) → FitsApart old h → FitsApart new ((s, a) ∷ h)
  -- Again comes only if memory is short, and memory that was once had is never refused again
  pub again : (h : History) → FitsApart old h → a ≡ answer.Again
      → IsShortOfMemory old (world old.setup h) s
  pub memory : HasNoLessMemory old new

-- A core was told how this request ended, and answered so: the request ends with that outcome exactly if it was running.
pub record FinishedApart (number : ℕ) (outcome : Outcome) (a : Answer) (old new : Core) : Type 0 where
  pub setup : new.setup ≡ old.setup
  pub fits : (h : History) → FitsApart old h → FitsApart new ((step.Finish number, a) ∷ h)
  pub memory : HasNoLessMemory old new
  pub told : (h : History) → FitsApart old h → IsFinished (world old.setup h) number outcome a

-- A machine has made this step, and answered so: it fits every history that it did, followed by both, and the answer is called for.
pub record Stepped (s : Step) (a : Answer) (old new : Machine) : Type 0 where
  pub setup : new.core.setup ≡ old.core.setup
  pub fits : (h : History) → Fits old h → Fits new ((s, a) ∷ h)
  pub called : (h : History) → Fits old h → CalledFor old.core.setup (world old.core.setup h) s a
  -- Again comes only if memory is short, and memory that was once had is never refused again
  pub again : (h : History) → Fits old h → a ≡ answer.Again
      → IsShortOfMemory old.core (world old.core.setup h) s
  pub memory : HasNoLessMemory old.core new.core

-- these words tell an answer to this step that refuses no memory: a Finish ends as its operation calls for, and no other step is answered Again
abbrev pub TellUnrefused : Setup → World → Step → AnswerWords → Type 0
TellUnrefused g w (step.Finish n) words =
    words ≡ words_of (finish_answer (files_of g w) w.requests n)
TellUnrefused g w s words = IsAgain words → ⊥

-- The core of a place has made this step, and these words tell its answer.
pub record TellsStepApart (s : Step) (old new : Option Core) (words : AnswerWords) : Type 0 where
  pub given : Answer
  pub told : words ≡ words_of given
  pub made : IsSomeAnd old (λ before. IsSomeAnd new (SteppedApart s given before))

-- The core of a place was told how this request ended, and these words tell its answer.
pub record TellsFinish (number : ℕ) (outcome : Outcome) (old new : Option Core) (words : AnswerWords) : Type 0 where
  pub given : Answer
  pub told : words ≡ words_of given
  pub made : IsSomeAnd old (λ before. IsSomeAnd new (FinishedApart number outcome given before))

-- The core of a place has made this step, and this is the kind of its answer, with its result, or 0.
pub record TellsKind (s : Step) (old new : Option Core) (kind : ℕ) (res : ℤ) : Type 0 where
  pub given : Answer
  pub kind_is : kind ≡ kind_of given
  pub res_is : res ≡ res_of given
  pub made : IsSomeAnd old (λ before. IsSomeAnd new (SteppedApart s given before))

-- The core of a place has made this step, and this is the kind of its answer, with its word, or 0.
pub record TellsWord (s : Step) (old new : Option Core) (kind word : ℕ) : Type 0 where
  pub given : Answer
  pub kind_is : kind ≡ kind_of given
  pub word_is : word ≡ word_of given
  pub made : IsSomeAnd old (λ before. IsSomeAnd new (SteppedApart s given before))

-- The core of a place has made this step, and this is the kind of its answer, with its number, or 0.
pub record TellsNumber (s : Step) (old new : Option Core) (kind number : ℕ) : Type 0 where
  pub given : Answer
  pub kind_is : kind ≡ kind_of given
  pub number_is : number ≡ number_of given
  pub made : IsSomeAnd old (λ before. IsSomeAnd new (SteppedApart s given before))

-- an operation ended with this result, and has given no bytes
abbrev pub no_bytes : ℤ → Outcome
no_bytes res = record { res = res; bytes = replicate 64 0 }

-- The core of a place was told how this request ended, and this is the kind of its answer, with its result, or 0.
pub record TellsEnd (number : ℕ) (outcome : Outcome) (old new : Option Core) (kind : ℕ) (res : ℤ) : Type 0 where
  pub given : Answer
  pub kind_is : kind ≡ kind_of given
  pub res_is : res ≡ res_of given
  pub made : IsSomeAnd old (λ before. IsSomeAnd new (FinishedApart number outcome given before))

-- The machine of a place has made this step, and these words tell its answer.
pub record TellsStep (s : Step) (old new : Option Machine) (words : AnswerWords) : Type 0 where
  pub given : Answer
  pub told : words ≡ words_of given
  pub made : IsSomeAnd old (λ before. IsSomeAnd new (Stepped s given before))
