-- Claims of what calls may come to: that no outcome shows a line, or that each does. Our own rule.
use Rattle.std.specs.Prelude.{◌≡◌, ℕ, Bool, not, List, [], ◌∷◌, ◌++◌, length, map, Contains, Option, Some, Ok, slice_get}
use Rattle.std.specs.Io.KnownBytes.{Consumes, IsAtEnd}
use Rattle.std.specs.declared.vec.Vec.{Vec}
use Rattle.std.specs.declared.string.String.{String}
use Rattle.std.specs.declared.alloc.Global.{Global}
use Rattle.uring_entry.specs.Setup.{Setup}
use Rattle.uring_entry.specs.Layout.{Sqe}
use Rattle.uring_ports.specs.declared.item.Item.{Item}
use Rattle.uring_play_text.specs.Inputs.{IsTold}
use Rattle.uring_outcomes.specs.Outcomes.{Ending, CanEnd, AreEndings, AreAllEndings, AreOnce}
use Rattle.uring_litmus.specs.declared.claims.Claim.{Claim}
use Rattle.uring_litmus.specs.declared.claims.Claim.TheVariants as claims
use Rattle.uring_litmus.specs.declared.judging.Judged.{Judged}
use Rattle.uring_litmus.specs.declared.judging.Judged.TheVariants as judged
use Rattle.uring_litmus.specs.Items.{accepted_of}
use Rattle.uring_litmus.specs.Parts.{texts_of, completion_parts, files_texts}

-- the parts of lines that vectors hold
abbrev pub lines_in : List (Vec (String Global) Global) → List (List (List ℕ))
lines_in lines = map (λ line. texts_of line.items) lines

-- Parts stand among others in their order: the first stands somewhere among them, and the rest after it.
abbrev pub AreAmong : List (List ℕ) → List (List ℕ) → Type 0
AreAmong [] parts = Unit {0}
AreAmong (first ∷ rest) parts = (before : List (List ℕ)) × (after : List (List ℕ))
    × (parts ≡ before ++ first ∷ after) × AreAmong rest after

-- the parts of an outcome: its completions as they were posted, or `none`, and then its files
abbrev pub parts_in : Ending → List (List ℕ)
parts_in e = completion_parts e.posted ++ files_texts 0 e.files

-- one of these lines stands among parts
abbrev pub StandsSome : List (List (List ℕ)) → List (List ℕ) → Type 0
StandsSome lines parts = (line : List (List ℕ)) × Contains lines line × AreAmong line parts

-- An outcome shows a line if the parts of the line stand among its own, in their order; here some of these lines.
abbrev pub ShowsSome : List (List (List ℕ)) → Ending → Type 0
ShowsSome lines e = StandsSome lines (parts_in e)

-- the claim is so of an outcome
abbrev pub IsSoOf : Claim → List (List (List ℕ)) → Ending → Type 0
IsSoOf claims.Never lines e = ShowsSome lines e → ⊥
IsSoOf claims.Always lines e = ShowsSome lines e

-- at this place there is one of these outcomes of which it isn't so
pub record IsAgainst (claim : Claim) (lines : List (List (List ℕ))) (endings : List Ending) (at : ℕ) : Type 0 where
  pub ending : Ending
  pub there : slice_get endings at ≡ Some ending
  pub against : IsSoOf claim lines ending → ⊥

-- It is so of each outcome of these calls, and they have so many.
pub record HoldsOfAll (g : Setup) (calls : List (List Sqe)) (claim : Claim) (lines : List (List (List ℕ))) (count : ℕ) : Type 0 where
  pub so : (e : Ending) → CanEnd g calls e → IsSoOf claim lines e
  pub endings : List Ending
  pub all : AreAllEndings g calls endings
  pub once : AreOnce endings
  pub many : length endings ≡ count

-- It isn't so of this outcome of these calls.
pub record FailsOf (g : Setup) (calls : List (List Sqe)) (claim : Claim) (lines : List (List (List ℕ))) (e : Ending) : Type 0 where
  pub can : CanEnd g calls e
  pub against : IsSoOf claim lines e → ⊥

-- It is so of so many outcomes of these calls, and of others it isn't known.
pub record HoldsOfSome (g : Setup) (calls : List (List Sqe)) (claim : Claim) (lines : List (List (List ℕ))) (count : ℕ) : Type 0 where
  pub endings : List Ending
  pub right : AreEndings g calls endings
  pub once : AreOnce endings
  pub so : (e : Ending) → Contains endings e → IsSoOf claim lines e
  pub many : length endings ≡ count

-- what became of a claim of these calls
abbrev pub IsVerdict : Setup → List (List Sqe) → Claim → List (List (List ℕ)) → Judged → Type 0
IsVerdict g calls claim lines (judged.Holds count) = HoldsOfAll g calls claim lines count
IsVerdict g calls claim lines (judged.Fails e) = FailsOf g calls claim lines e
IsVerdict g calls claim lines (judged.Unknown count) = HoldsOfSome g calls claim lines count

-- Glue. Whether a claim is so, by whether some line is shown.
abbrev pub is_so : Claim → Bool → Bool
is_so claims.Never shown = not shown
is_so claims.Always shown = shown

-- Calls were read to the end of the input, and this became of a claim of them.
pub record Judges (g : Setup) (claim : Claim) (lines : List (List (List ℕ))) (said : Judged) (left_before left_after : Option (List ℕ)) : Type 0 where
  pub bytes : List ℕ
  pub consumed : Consumes left_before left_after bytes
  pub at_end : IsAtEnd left_after
  pub calls : List (List Item)
  pub told : IsTold g.sq bytes (Ok calls)
  pub verdict : IsVerdict g (map accepted_of calls) claim lines said
