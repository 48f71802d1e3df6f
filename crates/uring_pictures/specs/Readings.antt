-- Glue. What an explainer takes in, and what is noted, while nothing is answered.
use Rattle.std.specs.Prelude.{◌≡◌, ℕ, Bool, List, ◌++◌, Option}
use Rattle.std.specs.Io.KnownBytes.{Consumes, Appends, IsAtEnd}
use Rattle.uring_entry.specs.Setup.{Setup}
use Rattle.uring_trace.specs.declared.explainer.Explainer.{Explainer}
use Rattle.uring_trace.specs.Explaining.{HasTold, HasEnded}

-- these bytes were taken in, and what is noted of them was written
abbrev pub TakesIn : Explainer → Explainer → List ℕ → Option (List ℕ) → Option (List ℕ) → Type 0
TakesIn old new bytes e e' =
    (setup : Setup) (before told noted : List ℕ) → HasTold setup old before told noted
    → (more : List ℕ) × (more_notes : List ℕ) × Appends e e' more_notes
    × HasTold setup new (before ++ bytes) (told ++ more) (noted ++ more_notes)

-- the input was ended, and what is noted of its last line was written
abbrev pub EndsLine : Explainer → Explainer → Option (List ℕ) → Option (List ℕ) → Type 0
EndsLine old new e e' =
    (setup : Setup) (before told noted : List ℕ) → HasTold setup old before told noted
    → (more : List ℕ) × (more_notes : List ℕ) × Appends e e' more_notes
    × HasEnded setup new before (told ++ more) (noted ++ more_notes)

-- and it is told whether a line was bad
abbrev pub EndsIn : Bool → Explainer → Explainer → Option (List ℕ) → Option (List ℕ) → Type 0
EndsIn bad old new e e' = (bad ≡ new.has_bad) × EndsLine old new e e'

-- all was taken in, and what is noted was written
pub record ReadsAll (setup : Setup) (bad : Bool) (s : Explainer) (left_before left_after notes_before notes_after : Option (List ℕ)) : Type 0 where
  pub bytes : List ℕ
  pub told : List ℕ
  pub notes : List ℕ
  pub consumed : Consumes left_before left_after bytes
  pub at_end : IsAtEnd left_after
  pub noted : Appends notes_before notes_after notes
  pub is_bad : bad ≡ s.has_bad
  pub ended : HasEnded setup s bytes told notes
