-- Epochs: what happens on a machine from one start to the crash that ends it, and on which files the next one begins. All of it is our own rule.
use Rattle.std.specs.Prelude.{◌≡◌, Bool, false, ℕ, zero, suc, ◌<◌, ◌≤◌, pos, List, [], ◌∷◌, length, map, slice_get, slice_index_or, Some}
use Rattle.uring_entry.specs.Setup.{Setup}
use Rattle.uring_entry.specs.Requests.{is_running}
use Rattle.uring_files.specs.Contents.{FileContents, file_of_bytes, empty_file, max_len}
use Rattle.uring_volume.specs.Volume.{Volume}
use Rattle.uring_volume.specs.Writes.{Write}
use Rattle.uring_volume.specs.Events.{writes}
use Rattle.uring_volume.specs.Images.{IsIn, IsImage, end_of}
use Rattle.uring_volume.specs.Choices.{IsLeftBy}
use Rattle.uring_core.specs.World.{World}
use Rattle.uring_core.specs.StepAnswers.{CalledForApart}
use Rattle.uring_core.specs.CalledFor.{files_after, EndsOn}
use Rattle.uring_core.specs.Core.{Core, FitsApart}
use Rattle.uring_core.specs.Histories.{History, world}
use Rattle.uring_core.specs.declared.step.Step.{Step}
use Rattle.uring_core.specs.declared.step.Step.TheVariants as step
use Rattle.uring_core.specs.declared.answer.Answer.{Answer}
use Rattle.uring_crash_machine.specs.Logs.{AreFolded, Log, log_on, log_from}

-- the files as the ends so far have left them, if these were there at first
abbrev pub files_from : List FileContents → World → List FileContents
files_from first w = files_after w.requests first w.requests.ended

-- the answer is called for, if these files were there at first
abbrev pub CalledForFrom : List FileContents → Setup → World → Step → Answer → Type 0
CalledForFrom first g w (step.Finish n) a =
    EndsOn (files_from first w) w.requests n (is_running w.requests n) a
CalledForFrom first g w s a = CalledForApart g w s a

-- each answer is called for by what came before it, if these files were there at first
abbrev pub IsLawfulFrom : List FileContents → Setup → History → Type 0
IsLawfulFrom first g [] = Unit {0}
IsLawfulFrom first g ((s, a) ∷ before) =
    CalledForFrom first g (world g before) s a × IsLawfulFrom first g before

-- An epoch: the files that it began on, and what has happened in it.
pub record Epoch : Type 0 where
  pub first : List FileContents
  pub history : History

-- an epoch with one event more
abbrev pub with_step : Step → Answer → Epoch → Epoch
with_step s a e = record e { history = (s, a) ∷ e.history }

-- the file at this place
abbrev pub file_at : List FileContents → ℕ → FileContents
file_at files place = slice_index_or files place empty_file

-- the volume of the file at this place, as an epoch has made it
abbrev pub volume_of : ℕ → Setup → Epoch → ℕ → Volume
volume_of unit g e place =
    (log_from (log_on unit (file_at e.first place).bytes (pos place)) g e.history).volume

-- these bytes are left of the file at this place by a choice
abbrev pub IsLeftAt : ℕ → Setup → Epoch → ℕ → (choice now : List ℕ) → Type 0
IsLeftAt unit g e place choice now =
    IsLeftBy unit (file_at e.first place).bytes (volume_of unit g e place).history choice now

-- Files that a crash may leave of an epoch: as many as it began on, each an image of its own, of which no write is counted.
pub record AreLeft (unit : ℕ) (g : Setup) (e : Epoch) (files : List FileContents) : Type 0 where
  pub many : length files ≡ length e.first
  pub image : (place : ℕ) → place < length files
      → IsImage unit (file_at e.first place).bytes (volume_of unit g e place).history (file_at files place).bytes
  pub uncounted : (place : ℕ) → place < length files
      → file_at files place ≡ file_of_bytes (file_at files place).bytes

-- the files that an epoch begins on are those that a crash may leave of the one before, the newest of these; the first epoch may begin on any
abbrev pub Begins : ℕ → Setup → List Epoch → List FileContents → Type 0
Begins unit g [] first = Unit {0}
Begins unit g (before ∷ earlier) first = AreLeft unit g before first

-- A run with crashes, as a list of its epochs, the newest first: each is lawful from the files that it began on, and these may have been left by the crash before.
abbrev pub IsRun : ℕ → Setup → List Epoch → Type 0
IsRun unit g [] = Unit {0}
IsRun unit g (e ∷ earlier) =
    IsLawfulFrom e.first g e.history × Begins unit g earlier e.first × IsRun unit g earlier

-- A core with files, and the log of each of them.
pub record CrashMachine : Type 0 where
  -- how many bytes of a file a crash leaves by themselves
  pub unit : ℕ
  pub core : Core
  pub files : List FileContents
  pub logs : List Log
  -- whether memory was refused for what is kept
  pub is_lost : Bool
  -- whether logs may have been folded since the epoch began
  pub is_folded : Bool

-- the logs of files at first, from this place on
abbrev pub logs_on : ℕ → ℕ → List FileContents → List Log
logs_on unit place [] = []
logs_on unit place (file ∷ more) =
    log_on unit file.bytes (pos place) ∷ logs_on unit (suc place) more

-- so many files at first: these have these bytes, and the others are empty
abbrev pub first_files : ℕ → List (List ℕ) → List FileContents
first_files zero contents = []
first_files (suc more) [] = empty_file ∷ first_files more []
first_files (suc more) (bytes ∷ later) = file_of_bytes bytes ∷ first_files more later

-- an epoch in which nothing has happened yet
abbrev pub begun_on : List FileContents → Epoch
begun_on first = record { first = first; history = [] }

-- A volume on which no file gets longer than files may be.
pub record IsShort (v : Volume) : Type 0 where
  pub first : length v.first ≤ max_len
  pub writes : (w : Write) → IsIn w (writes v.history) → end_of w ≤ max_len

-- An image of the file of a log, by a choice.
pub record IsImageBy (log : Log) (choice now : List ℕ) : Type 0 where
  pub image : IsImage log.volume.unit log.volume.first log.volume.history now
  pub chosen : IsLeftBy log.volume.unit log.volume.first log.volume.history choice now
  pub short : length now ≤ max_len

-- Images of the files of these logs, one of each, by these choices.
pub record AreImages (logs : List Log) (choices images : List (List ℕ)) : Type 0 where
  pub many : length images ≡ length logs
  pub each : (place : ℕ) (log : Log) → slice_get logs place ≡ Some log
      → IsImageBy log (slice_index_or choices place []) (slice_index_or images place [])

-- the logs of the files of an epoch, as its history has made them
abbrev pub logs_of : ℕ → Setup → Epoch → List Log
logs_of unit g e = map (λ log. log_from log g e.history) (logs_on unit 0 e.first)

-- The machine fits an epoch that comes after these, the newest first: its logs are those of the epoch, with some of their writes folded.
pub record FitsRun (m : CrashMachine) (e : Epoch) (earlier : List Epoch) : Type 0 where
  pub core : FitsApart m.core e.history
  pub files : m.files ≡ files_from e.first (world m.core.setup e.history)
  pub logs : AreFolded (logs_of m.unit m.core.setup e) m.logs
  pub unfolded : m.is_folded ≡ false → m.logs ≡ logs_of m.unit m.core.setup e
  pub many : length e.first ≡ m.core.setup.files
  pub run : IsRun m.unit m.core.setup (e ∷ earlier)
