-- The lines that are steps: what each step is called, and the tokens that it is written as. The language of a trace is our own rule.
use Rattle.std.specs.Prelude.{◌≡◌, ℕ, ◌<◌, ◌≤◌, ◌^◌, List, [], ◌∷◌, length, codes}
use Rattle.std.specs.Fmt.{decimal}
use Rattle.uring_core.specs.declared.step.Step.{Step}
use Rattle.uring_core.specs.declared.step.Step.TheVariants as step
use Rattle.uring_text.specs.Tokens.{tokens_of}
use Rattle.uring_text.specs.Forms.{SpellsEntry}
use Rattle.uring_text.specs.declared.place.TokenKind.{TokenKind}
use Rattle.uring_text.specs.declared.place.TokenKind.TheVariants as kind

-- what a step is called
abbrev pub name_of : Step → List ℕ
name_of (step.Fill slot entry) = codes "fill"
name_of (step.Index word) = codes "index"
name_of step.StoreTail = codes "tail"
name_of step.LoadHead = codes "head"
name_of (step.Begin count) = codes "begin"
name_of step.Take = codes "take"
name_of step.End = codes "end"
name_of (step.Issue number) = codes "issue"
name_of (step.Finish number) = codes "finish"
name_of step.Flush = codes "flush"
name_of step.LoadCqTail = codes "cqtail"
name_of step.Reap = codes "reap"
name_of step.StoreCqHead = codes "cqhead"
name_of step.Close = codes "close"
name_of step.Next = codes "next"

-- the steps but for a fill, a number in them 0
abbrev pub steps : List Step
steps =
    step.Index 0 ∷ step.StoreTail ∷ step.LoadHead ∷ step.Begin 0 ∷ step.Take ∷ step.End ∷ step.Issue 0 ∷ step.Finish 0 ∷ step.Flush ∷ step.LoadCqTail ∷ step.Reap ∷ step.StoreCqHead ∷ step.Close ∷ step.Next ∷ []

-- the kinds of the tokens after the name of a step, but for those of an entry
abbrev pub kinds_of : Step → List TokenKind
kinds_of (step.Fill slot entry) = kind.Slot ∷ []
kinds_of (step.Index word) = kind.Word ∷ []
kinds_of (step.Begin count) = kind.Count ∷ []
kinds_of (step.Issue number) = kind.Number ∷ []
kinds_of (step.Finish number) = kind.Number ∷ []
kinds_of s = []

-- The tokens spell the step: its name, and after it the number or the entry that it has.
abbrev pub Spells : List (List ℕ) → Step → Type 0
Spells tokens (step.Fill slot entry) = (rest : List (List ℕ))
    × (tokens ≡ codes "fill" ∷ decimal slot ∷ rest) × (slot < 2 ^ 32) × SpellsEntry rest entry
Spells tokens (step.Index word) = (tokens ≡ codes "index" ∷ decimal word ∷ []) × (word < 2 ^ 32)
Spells tokens (step.Begin count) = (tokens ≡ codes "begin" ∷ decimal count ∷ []) × (count < 2 ^ 32)
Spells tokens (step.Issue number) =
    (tokens ≡ codes "issue" ∷ decimal number ∷ []) × (number < 2 ^ 64)
Spells tokens (step.Finish number) =
    (tokens ≡ codes "finish" ∷ decimal number ∷ []) × (number < 2 ^ 64)
Spells tokens s = tokens ≡ name_of s ∷ []

-- The line is the step: it has at most 300 bytes, and its tokens spell the step.
pub record IsStep (line : List ℕ) (s : Step) : Type 0 where
  pub short : length line ≤ 300
  pub spells : Spells (tokens_of line) s

-- the line is no step
abbrev pub IsBad : List ℕ → Type 0
IsBad line = (s : Step) → IsStep line s → ⊥
