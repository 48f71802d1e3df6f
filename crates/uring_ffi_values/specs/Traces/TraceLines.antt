-- A step with its answer as a line of a trace. The language of a trace is our own rule.
use Rattle.std.specs.Prelude.{◌≡◌, ℕ, List, true, Some, IsSomeAnd}
use Rattle.uring_core.specs.declared.answer.Answer.{Answer}
use Rattle.uring_core.specs.declared.step.Step.{Step}
use Rattle.uring_ffi_values.specs.CoreWords.AnswerForm.{answer_of}
use Rattle.uring_core.specs.StepForm.{step_of}
use Rattle.uring_ffi_values.specs.Volumes.VolumeForms.{IsGiven}
use Rattle.uring_ffi_values.specs.declared.core_words.answer_words.AnswerWords.{AnswerWords}
use Rattle.uring_core.specs.declared.step.StepWords.{StepWords}
use Rattle.uring_trace.specs.Exchanges.{answer_text}
use Rattle.uring_trace.specs.Spelling.{IsStep}

-- the text is a line which is read as this step, and after it the answer, as a trace is written with its steps
pub record IsLineOf (text : List ℕ) (s : Step) (a : Answer) : Type 0 where
  pub line : List ℕ
  pub is_step : IsStep line s
  pub is_text : text ≡ answer_text true line (Some (s, a))

-- the line of what these words give was given
pub record TellsLine (s : StepWords) (a : AnswerWords) (old new : List ℕ) (len : ℕ) : Type 0 where
  pub text : List ℕ
  pub is_line : IsSomeAnd (step_of s) (λ made. IsSomeAnd (answer_of a) (λ told. IsLineOf text made told))
  pub given : IsGiven text old new len
