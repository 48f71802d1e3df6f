-- Glue. What a reading has taken in.
use Rattle.std.specs.Prelude.{◌≡◌, ℕ, List, reverse, Option, Result, Ok, Err}
use Rattle.std.specs.Io.KnownBytes.{Consumes, IsAtEnd}
use Rattle.uring_text.specs.Lines.{Splits}
use Rattle.uring_text.specs.KeptLine.{KeptLine, kept_of}
use Rattle.uring_play_text.specs.declared.play_fault.PlayFault.{PlayFault}
use Rattle.uring_play_text.specs.declared.script.Script.{Script}
use Rattle.uring_play_text.specs.declared.reading.Reading.{Reading}
use Rattle.uring_play_text.specs.Scripts.{Gathers, IsEarly}

-- The script has the lines of the bytes that have their ends, and this is what is kept of the unfinished one.
pub record Holds (size : ℕ) (kept : KeptLine) (script : Script) (bytes : List ℕ) : Type 0 where
  pub ended : List (List ℕ)
  pub line : List ℕ
  pub splits : Splits bytes ended line
  pub keeps : kept ≡ kept_of line
  pub gathers : Gathers size (reverse ended) script

-- The reading has taken in these bytes, for a submission ring of this size.
abbrev pub Has : ℕ → Reading → List ℕ → Type 0
Has size r bytes = Holds size r.line r.script bytes

-- all bytes are taken in, or a fault came before
abbrev pub TakesIn : ℕ → Result (Unit {0}) PlayFault → Option (List ℕ) → Reading → List ℕ → Type 0
TakesIn size (Ok done) left r bytes = Has size r bytes × IsAtEnd left
TakesIn size (Err f) left r bytes = IsEarly f

-- what was read and taken in: the reader had `left_before` left and has `left_after`
abbrev pub ReadsIn : ℕ → Result (Unit {0}) PlayFault → Option (List ℕ) → Option (List ℕ) → Reading
    → Type 0
ReadsIn size answer left_before left_after r = (bytes : List ℕ)
    × Consumes left_before left_after bytes × TakesIn size answer left_after r bytes
