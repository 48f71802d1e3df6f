-- The first line of a trace: its set-up, as the options of `uring trace`. The language of a trace is our own rule.
use Rattle.std.specs.Prelude.{◌≡◌, ◌⊎◌, ℕ, Bool, true, List, [], ◌∷◌, ◌++◌, codes, if◌then◌else◌}
use Rattle.std.specs.Fmt.{decimal}
use Rattle.uring_entry.specs.Setup.{Setup}
use Rattle.uring_ffi_values.specs.CoreWords.SetUps.{IsAskedFor, IsRefused, without_files}
use Rattle.uring_ffi_values.specs.Volumes.VolumeForms.{IsGiven}
use Rattle.uring_ffi_values.specs.declared.core_words.set_up_words.SetupWords.{SetupWords}
use Rattle.uring_text.specs.Tokens.{tokens_of}

abbrev pub named_if : Bool → List ℕ → List ℕ
named_if is_asked name = if is_asked then name else []

-- what a set-up's line is, without its end. After `# ` it is what `uring check` reads
abbrev pub setup_line : Setup → List ℕ
setup_line s =
    codes "setup --sq " ++ decimal s.sq ++ codes " --cq " ++ decimal s.cq ++ codes " --files " ++ decimal s.files ++ codes " --start " ++ decimal s.start
    ++ named_if s.stops (codes " --stop") ++ named_if s.linux (codes " --linux")

-- this is the set-up that the words ask for, or if they ask for none with so many files, the one of a core, which has none
abbrev pub IsNamedBy : SetupWords → Setup → Type 0
IsNamedBy w s = IsAskedFor w s ⊎ (IsRefused w × IsAskedFor (without_files w) s)

-- the line of the set-up that these words ask for was given
pub record TellsSetup (w : SetupWords) (old new : List ℕ) (len : ℕ) : Type 0 where
  pub setup : Setup
  pub asked : IsNamedBy w setup
  pub given : IsGiven (setup_line setup) old new len

-- the set-up's numbers with what is asked for besides, all of which its line names
abbrev pub words_in_line : Setup → SetupWords
words_in_line s = record {
  sq = s.sq;
  cq = s.cq;
  files = s.files;
  start = s.start;
  has_cq = true;
  stops = s.stops;
  linux = s.linux;
}

-- who asks for what a set-up's line names gets that set-up
abbrev pub AsksForTheSame : Type 0
AsksForTheSame = (w : SetupWords) (s : Setup) → IsAskedFor w s → IsAskedFor (words_in_line s) s

-- a word of its own, if it is asked for
abbrev pub token_if : Bool → List ℕ → List (List ℕ)
token_if is_asked name = if is_asked then name ∷ [] else []

-- each option before its number, as it is spelled, and then what is asked for besides
abbrev pub setup_tokens : Setup → List (List ℕ)
setup_tokens s =
    codes "setup" ∷ codes "--sq" ∷ decimal s.sq ∷ codes "--cq" ∷ decimal s.cq ∷ codes "--files" ∷ decimal s.files ∷ codes "--start" ∷ decimal s.start
    ∷ (token_if s.stops (codes "--stop") ++ token_if s.linux (codes "--linux"))

-- these are the tokens that a set-up's line is read as
abbrev pub SpellsSetup : Type 0
SpellsSetup = (w : SetupWords) (s : Setup) → IsAskedFor w s → tokens_of (setup_line s) ≡ setup_tokens s
