-- What a whole call makes of what a place holds.
use Rattle.std.specs.Prelude.{◌≡◌, ℕ, ◌≤◌, ◌<◌, ◌∷◌, List, Option, None, Result, Ok, Err, IfOk, IfErr, IsErrOf, IsSomeAnd, length, map, take, drop}
use Rattle.uring_entry.specs.Layout.{Sqe, Cqe}
use Rattle.uring_entry.specs.Completions.{next_to_reap}
use Rattle.uring_core.specs.Core.{Core, FitsApart, IsShortFor, HasNoLessMemory}
use Rattle.uring_core.specs.Histories.{History, world}
use Rattle.uring_core.specs.WholeCalls.{not_made, IsMadeAsTold, after_published, after_taken, after_refused, after_reap_all}
use Rattle.uring_core.specs.declared.answer.Answer.{Answer}
use Rattle.uring_core.specs.declared.answer.Answer.TheVariants as answer
use Rattle.uring_core.specs.declared.step.Step.TheVariants as step
use Rattle.uring_core.specs.declared.cores.submit.NotSubmitted.{NotSubmitted}
use Rattle.uring_core.specs.declared.cores.submit.NotSubmitted.TheVariants as not_made_as
use Rattle.uring_ffi_values.specs.CoreWords.AnswerForm.{words_of, kind_of, word_of, dropped_of, head_of}
use Rattle.uring_ffi_values.specs.CoreWords.ReadingForms.{words_of_completion}
use Rattle.uring_ffi_values.specs.declared.core_words.answer_words.AnswerWords.{AnswerWords}
use Rattle.uring_ffi_values.specs.declared.core_words.completion_words.CompletionWords.{CompletionWords}
use Rattle.uring_ffi_values.specs.declared.core_words.taken_words.TakenWords.{TakenWords}

-- A core has made all steps of a call of these entries, or was refused so.
pub record SubmittedApart (entries : List Sqe) (made : Result Answer NotSubmitted) (old new : Core) : Type 0 where
  pub setup : new.setup ≡ old.setup
  pub fits : IfOk made (λ closed. (h : History) → FitsApart old h
      → FitsApart new ((step.End, closed) ∷ after_taken old.setup (length entries) (after_published old.setup entries h)))
  pub refused : IfErr made (λ refusal. (h : History) → FitsApart old h
      → FitsApart new (after_refused old.setup entries refusal h))
  pub not_made : (h : History) → FitsApart old h
      → IsMadeAsTold (not_made old.setup (world old.setup h) (length entries)) made
  -- Again comes only if memory is short, and memory that was once had is never refused again
  pub again : (h : History) → FitsApart old h → IsErrOf made (not_made_as.Begin answer.Again)
      → IsShortFor old (length entries)
  pub memory : HasNoLessMemory old new

-- what C is answered: as the End, or as the step that was refused; Busy if positions that were staged before wait for a call
abbrev pub submit_told : Result Answer NotSubmitted → Answer
submit_told (Ok closed) = closed
submit_told (Err not_made_as.Closed) = answer.Closed
submit_told (Err not_made_as.InCall) = answer.InCall
submit_told (Err not_made_as.TooMany) = answer.NoSlot
submit_told (Err not_made_as.Waits) = answer.Busy
submit_told (Err (not_made_as.Begin refusal)) = refusal

-- The core of a place has made such a call, and these words tell its answer.
pub record TellsSubmit (entries : List Sqe) (old new : Option Core) (words : AnswerWords) : Type 0 where
  pub given : Result Answer NotSubmitted
  pub told : words ≡ words_of (submit_told given)
  pub made : IsSomeAnd old (λ before. IsSomeAnd new (SubmittedApart entries given before))

-- of an answer its kind, and what a call tells as it ends. Our own rule
abbrev pub taken_words_of : Answer → TakenWords
taken_words_of a =
    record { kind = kind_of a; accepted = word_of a; dropped = dropped_of a; head = head_of a }

-- The core of a place has made such a call, and these words tell of its answer.
pub record TellsTaken (entries : List Sqe) (old new : Option Core) (words : TakenWords) : Type 0 where
  pub given : Result Answer NotSubmitted
  pub told : words ≡ taken_words_of (submit_told given)
  pub made : IsSomeAnd old (λ before. IsSomeAnd new (SubmittedApart entries given before))

-- A core has reaped these completions, so many: all that its ring shows, or as many as there is room for.
pub record ReapedApart (room count : ℕ) (completions : List Cqe) (old new : Core) : Type 0 where
  pub setup : new.setup ≡ old.setup
  pub fits : (h : History) → FitsApart old h
      → FitsApart new (after_reap_all old.setup completions h)
  pub within : count ≤ room
  pub all : count < room → (h : History) → FitsApart old h
      → next_to_reap (world old.setup (after_reap_all old.setup completions h)).completions ≡ None
  pub memory : HasNoLessMemory old new

-- The core of a place has done so, and these places hold them, with the rest as before.
pub record TellsReaped (old new : Option Core) (before after : List CompletionWords) (count : ℕ) : Type 0 where
  pub given : List Cqe
  pub told : take count after ≡ map words_of_completion given
  pub rest : drop count after ≡ drop count before
  pub made : IsSomeAnd old (λ core. IsSomeAnd new (ReapedApart (length before) count given core))
