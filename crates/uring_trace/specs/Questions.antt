-- The lines of an explanation that ask to be shown something. Our own rule.
use Rattle.std.specs.Prelude.{◌≡◌, ℕ, ◌<◌, ◌≤◌, ◌^◌, List, ◌++◌, length, codes}
use Rattle.std.specs.Fmt.{decimal, signed_decimal}
use Rattle.uring_text.specs.Spelling.{IsFile}
use Rattle.uring_trace.specs.declared.questions.Question.{Question}
use Rattle.uring_trace.specs.declared.questions.Question.TheVariants as question

-- the words of a question
abbrev pub Asks : List ℕ → Question → Type 0
Asks line question.Counts = line ≡ codes "show counts"
Asks line question.Sizes = line ≡ codes "show sizes"
Asks line question.Overflow = line ≡ codes "show overflow"
Asks line question.Requests = line ≡ codes "show requests"
Asks line (question.Why n) = (line ≡ codes "show why " ++ decimal n) × (n < 2 ^ 64)
Asks line (question.File fd) = (line ≡ codes "show file " ++ signed_decimal fd) × IsFile fd

-- The line is the question: it has at most 300 bytes, and the words of it.
pub record IsQuestion (line : List ℕ) (q : Question) : Type 0 where
  pub short : length line ≤ 300
  pub asks : Asks line q

-- the line is no question
abbrev pub IsNoQuestion : List ℕ → Type 0
IsNoQuestion line = (q : Question) → IsQuestion line q → ⊥
