-- The lines of outcomes. Our own rule.
use Rattle.std.specs.Prelude.{◌≡◌, ℕ, List, [], ◌∷◌, ◌++◌, flat_map, Contains, codes}
use Rattle.std.specs.Ordering.{nat_cmp}
use Rattle.std.specs.Cmp.Lexicographic.{slice_cmp}
use Rattle.std.specs.List.{AllZip}
use Rattle.std.specs.List.Sorted.{IsStrictlySortedBy}
use Rattle.uring_outcomes.specs.Outcomes.{Ending}
use Rattle.uring_litmus.specs.declared.form.Form.{Form}
use Rattle.uring_litmus.specs.Parts.{IsShown}

-- a part after another
abbrev pub parted : List ℕ → List ℕ
parted part = codes ", " ++ part

-- parts as a line: a comma and a blank between
abbrev pub joined : List (List ℕ) → List ℕ
joined [] = []
joined (part ∷ parts) = part ++ flat_map parted parts

-- the line shows the outcome in this form
pub record IsLineOf (form : Form) (e : Ending) (line : List ℕ) : Type 0 where
  pub parts : List (List ℕ)
  pub shown : IsShown form e parts
  pub is : line ≡ joined parts

-- the lines show these outcomes, one each, in order
abbrev pub AreLinesOf : Form → List Ending → List (List ℕ) → Type 0
AreLinesOf form endings lines = AllZip (IsLineOf form) endings lines

-- the same lines in the order of their bytes, each once
pub record IsSortedOnce (old new : List (List ℕ)) : Type 0 where
  pub kept : (line : List ℕ) → Contains old line → Contains new line
  pub right : (line : List ℕ) → Contains new line → Contains old line
  pub sorted : IsStrictlySortedBy (slice_cmp nat_cmp) new

-- Lines in the order of their bytes, each once: each shows one of these outcomes, and each outcome is shown by one.
pub record ShowAll (form : Form) (endings : List Ending) (lines : List (List ℕ)) : Type 0 where
  pub right : (line : List ℕ) → Contains lines line → (e : Ending) × Contains endings e × IsLineOf form e line
  pub all : (e : Ending) → Contains endings e → (line : List ℕ) × Contains lines line × IsLineOf form e line
  pub sorted : IsStrictlySortedBy (slice_cmp nat_cmp) lines
