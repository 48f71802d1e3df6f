-- What a call makes of the machine whose power may fail that a place holds.
use Rattle.std.specs.Prelude.{◌≡◌, ◌⊎◌, ℕ, ◌<◌, ◌≤◌, true, false, List, [], ◌∷◌, length, map, All, Option, IsSomeAnd, slice_index_or}
use Rattle.uring_entry.specs.Setup.{Setup}
use Rattle.uring_files.specs.Contents.{max_len}
use Rattle.uring_core.specs.declared.answer.Answer.{Answer}
use Rattle.uring_core.specs.declared.step.Step.{Step}
use Rattle.uring_core.specs.Histories.{world}
use Rattle.uring_crash_machine.specs.Epochs.{AreImages, CrashMachine, Epoch, FitsRun, IsLeftAt, with_step, begun_on, first_files, file_at}
use Rattle.uring_crash_machine.specs.Asked.{IsUnrefusedOn}
use Rattle.uring_crash_machine.specs.Logs.{AreFolded}
use Rattle.uring_ffi_values.specs.CoreWords.AnswerForm.{words_of}
use Rattle.uring_ffi_values.specs.CoreWords.SetUps.{IsAskedFor}
use Rattle.uring_ffi_values.specs.declared.core_words.set_up_words.SetupWords.{SetupWords}
use Rattle.uring_ffi_values.specs.declared.core_words.answer_words.AnswerWords.{AnswerWords}

-- the words ask for no machine that begins on so many files in units of so many bytes
abbrev pub IsNoStart : SetupWords → (unit count : ℕ) → Type 0
IsNoStart w unit count = (s : Setup) → IsAskedFor w s → (unit ≡ 0) ⊎ (s.files < count)

-- no file is longer than files may be
abbrev pub AreShort : List ℕ → Type 0
AreShort lens = All (λ len. len ≤ max_len) lens

-- A machine that begins on these contents of its first files.
pub record BeginsOn (w : SetupWords) (unit : ℕ) (contents : List (List ℕ)) (m : CrashMachine) : Type 0 where
  pub setup : IsAskedFor w m.core.setup
  pub units : m.unit ≡ unit
  pub ready : m.is_lost ≡ false
  pub unfolded : m.is_folded ≡ false
  pub fits : FitsRun m (begun_on (first_files m.core.setup.files contents)) []

-- A machine has made this step, and answered so: each run that it fitted has this event more.
pub record SteppedOn (s : Step) (a : Answer) (old new : CrashMachine) : Type 0 where
  pub setup : new.core.setup ≡ old.core.setup
  pub unit : new.unit ≡ old.unit
  pub folded : new.is_folded ≡ old.is_folded
  pub ready : new.is_lost ≡ false
  pub fits : (e : Epoch) (earlier : List Epoch) → FitsRun old e earlier
      → FitsRun new (with_step s a e) earlier

-- The machine of a place has made this step, and these words tell its answer.
pub record TellsStepOn (s : Step) (old new : Option CrashMachine) (words : AnswerWords) : Type 0 where
  pub given : Answer
  pub told : words ≡ words_of given
  pub made : IsSomeAnd old (λ before. IsSomeAnd new (SteppedOn s given before))

-- the same, and the answer refuses no memory
pub record TellsUnrefusedOn (s : Step) (old : CrashMachine) (words : AnswerWords) : Type 0 where
  pub given : Answer
  pub told : words ≡ words_of given
  pub unrefused : (e : Epoch) (earlier : List Epoch) → FitsRun old e earlier
      → IsUnrefusedOn old.files (world old.core.setup e.history) s given

-- A machine of the same set-up that begins on what a crash leaves, by a choice for each file. If no log was folded, the choices are of the writes of the epoch, and else of those that are left of them.
pub record GoesOn (choices : List (List ℕ)) (old new : CrashMachine) : Type 0 where
  pub setup : new.core.setup ≡ old.core.setup
  pub unit : new.unit ≡ old.unit
  pub ready : new.is_lost ≡ false
  pub unfolded : new.is_folded ≡ false
  pub fits : (e : Epoch) (earlier : List Epoch) → FitsRun old e earlier
      → FitsRun new (begun_on new.files) (e ∷ earlier)
  pub left : AreImages old.logs choices (map (λ file. file.bytes) new.files)
  pub chosen : old.is_folded ≡ false → (e : Epoch) (earlier : List Epoch) → FitsRun old e earlier
      → (place : ℕ) → place < length new.files
      → IsLeftAt old.unit old.core.setup e place (slice_index_or choices place []) (file_at new.files place).bytes

-- no answer was given, and no more is: memory was refused for what is kept
pub record IsLostFrom (old new : CrashMachine) : Type 0 where
  pub setup : new.core.setup ≡ old.core.setup
  pub unit : new.unit ≡ old.unit
  pub lost : new.is_lost ≡ true

-- a machine whose files were folded: what a crash may leave stays as it was, and so do all answers
pub record IsFoldedMachine (old new : CrashMachine) : Type 0 where
  pub core : new.core ≡ old.core
  pub unit : new.unit ≡ old.unit
  pub files : new.files ≡ old.files
  pub lost : new.is_lost ≡ old.is_lost
  pub logs : AreFolded old.logs new.logs
  pub fits : (e : Epoch) (earlier : List Epoch) → FitsRun old e earlier → FitsRun new e earlier
