-- What a trace wrote for the bytes that it read.
use Rattle.std.specs.Prelude.{◌≡◌, ℕ, ◌<◌, ◌⊎◌, List, [], ◌++◌, length, Option, Result, Ok, Err}
use Rattle.std.specs.Io.KnownBytes.{Consumes, Appends, IsAtEnd}
use Rattle.uring_text.specs.declared.trace_fault.TraceFault.{TraceFault}
use Rattle.uring_text.specs.declared.trace_fault.TraceFault.TheVariants as fault
use Rattle.uring_text.specs.Lines.{Splits, with_last}
use Rattle.uring_trace.specs.Exchanges.{Exchange, Manner, Answers, lines_of}

-- the text answers every line of the bytes, of which the last may lack its end
abbrev pub IsWhole : Manner → List ℕ → List ℕ → Type 0
IsWhole manner bytes text = (xs : List Exchange) × (lines : List (List ℕ)) × (rest : List ℕ)
    × Answers manner xs text × Splits bytes lines rest × (lines_of xs ≡ with_last lines rest)

-- the text answers every line of the bytes that has its end
abbrev pub IsEnded : Manner → List ℕ → List ℕ → Type 0
IsEnded manner bytes text = (xs : List Exchange) × (rest : List ℕ) × Answers manner xs text
    × Splits bytes (lines_of xs) rest

-- the text answers the first lines of the bytes
abbrev pub IsBeginning : Manner → List ℕ → List ℕ → Type 0
IsBeginning manner bytes text = (first : List ℕ) × (after : List ℕ) × (xs : List Exchange)
    × Answers manner xs text × Splits first (lines_of xs) [] × (bytes ≡ first ++ after)

-- the text lacks something of the answers to lines of the bytes
abbrev pub IsCutShort : Manner → List ℕ → List ℕ → Type 0
IsCutShort manner bytes text = (more : List ℕ) × (0 < length more)
    × (IsBeginning manner bytes (text ++ more) ⊎ IsWhole manner bytes (text ++ more))

-- what is written, by what the trace returns
abbrev pub Writes : Manner → Result (Unit {0}) TraceFault → List ℕ → List ℕ → Type 0
Writes manner (Ok done) bytes text = IsWhole manner bytes text
Writes manner (Err fault.Read) bytes text = IsEnded manner bytes text
Writes manner (Err fault.Write) bytes text = IsCutShort manner bytes text
Writes manner (Err fault.Memory) bytes text = IsBeginning manner bytes text

-- at the end the reader has nothing left
abbrev pub ReadsAll : Result (Unit {0}) TraceFault → Option (List ℕ) → Type 0
ReadsAll (Ok done) left = IsAtEnd left
ReadsAll (Err fault) left = Unit {0}

-- What a trace in this manner read and wrote: the reader had `left_before` left and has `left_after`, the writer held `held_before` and holds `held_after`.
pub record Traces (manner : Manner) (answer : Result (Unit {0}) TraceFault) (left_before left_after held_before held_after : Option (List ℕ)) : Type 0 where
  pub bytes : List ℕ
  pub text : List ℕ
  pub consumed : Consumes left_before left_after bytes
  pub appended : Appends held_before held_after text
  pub written : Writes manner answer bytes text
  pub whole : ReadsAll answer left_after
