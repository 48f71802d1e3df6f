-- The parts of an outcome as text. Our own rule.
use Rattle.std.specs.Prelude.{◌≡◌, ◌+◌, ℕ, Bool, true, false, List, [], ◌∷◌, ◌++◌, length, map, codes, string_bytes, if◌then◌else◌}
use Rattle.std.specs.Fmt.{decimal}
use Rattle.std.specs.List.Sorted.{IsPermutation}
use Rattle.std.specs.declared.string.String.{String}
use Rattle.std.specs.declared.alloc.Global.{Global}
use Rattle.uring_entry.specs.Layout.{Cqe}
use Rattle.uring_files.specs.Contents.{FileContents}
use Rattle.uring_files.specs.declared.file.FileState.{FileState}
use Rattle.uring_text.specs.Completions.{completion_text}
use Rattle.uring_text.specs.Tokens.{hex_or_dash}
use Rattle.uring_outcomes.specs.Outcomes.{Ending}
use Rattle.uring_play_text.specs.Outputs.{IsInOrder}
use Rattle.uring_litmus.specs.declared.form.Form.{Form}

-- the bytes of texts
abbrev pub texts_of : List (String Global) → List (List ℕ)
texts_of texts = map string_bytes texts

-- the texts of completions
abbrev pub completion_texts : List Cqe → List (List ℕ)
completion_texts completions = map completion_text completions

-- completions as parts of an outcome, or `none` for none
abbrev pub completion_parts : List Cqe → List (List ℕ)
completion_parts [] = codes "none" ∷ []
completion_parts (c ∷ completions) = completion_texts (c ∷ completions)

-- a file's descriptor, and how it stands
abbrev pub state_text : ℕ → FileState → List ℕ
state_text fd s =
    codes "file " ++ decimal fd ++ codes " len " ++ decimal s.len ++ codes " writes " ++ decimal s.writes ++ codes " synced " ++ decimal s.synced ++ codes " data "

-- a file: its descriptor, how it stands, and its bytes
abbrev pub file_text : ℕ → FileContents → List ℕ
file_text fd file =
    state_text fd (record { len = length file.bytes; writes = file.writes; synced = file.synced }) ++ hex_or_dash file.bytes

-- files, the first of this descriptor
abbrev pub files_texts : ℕ → List FileContents → List (List ℕ)
files_texts fd [] = []
files_texts fd (file ∷ files) = file_text fd file ∷ files_texts (fd + 1) files

-- the completions as they are shown: as they were posted, or sorted
abbrev pub IsOrderedBy : Bool → List Cqe → List Cqe → Type 0
IsOrderedBy false posted shown = shown ≡ posted
IsOrderedBy true posted shown = IsPermutation posted shown × IsInOrder shown

-- What is shown of an outcome in this form: its completions, and its files if they are asked for.
pub record IsShown (form : Form) (e : Ending) (parts : List (List ℕ)) : Type 0 where
  pub completions : List Cqe
  pub ordered : IsOrderedBy form.is_sorted e.posted completions
  pub are : parts ≡ completion_parts completions ++ (if form.has_files then files_texts 0 e.files else [])
