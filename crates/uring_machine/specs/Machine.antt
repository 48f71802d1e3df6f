-- What a machine holds, and the history that this fits.
use Rattle.std.specs.Prelude.{◌≡◌, ℕ, true, List, if◌then◌else◌}
use Rattle.uring_entry.specs.Setup.{Setup}
use Rattle.uring_entry.specs.Preparation.{operation_of}
use Rattle.uring_entry.specs.Requests.{Requests, entry_of, is_running}
use Rattle.uring_files.specs.Contents.{FileContents, max_len}
use Rattle.uring_files.specs.Operations.{is_lengthening, result_of}
use Rattle.uring_core.specs.World.{World}
use Rattle.uring_core.specs.Histories.{History, world}
use Rattle.uring_core.specs.CalledFor.{files_of, IsLawful}
use Rattle.uring_core.specs.Core.{Core, FitsApart, IsShortOfMemory, elements_for}
use Rattle.uring_core.specs.declared.answer.Answer.{Answer}
use Rattle.uring_core.specs.declared.answer.Answer.TheVariants as answer
use Rattle.uring_core.specs.declared.step.Step.{Step}
use Rattle.uring_core.specs.declared.step.Step.TheVariants as step

-- A core, and its files.
pub record Machine : Type 0 where
  pub core : Core
  pub files : List FileContents

-- The machine fits a history: its core does, its files are those of the history, and each answer was called for.
pub record Fits (m : Machine) (h : History) : Type 0 where
  pub core : FitsApart m.core h
  pub files : m.files ≡ files_of m.core.setup (world m.core.setup h)
  pub lawful : IsLawful m.core.setup h

-- the answer to a Finish if memory is there: the outcome that the operation calls for on these files. Our own rule
abbrev pub finish_answer : List FileContents → Requests → ℕ → Answer
finish_answer files r n =
    let outcome = result_of files (operation_of (entry_of r n)) in
    if is_running r n then answer.Ended outcome.res outcome.bytes else answer.NotRunning

-- the answer to this step refuses no memory: a Finish ends as its operation calls for, and no other step is answered Again
abbrev pub IsUnrefused : Setup → World → Step → Answer → Type 0
IsUnrefused g w (step.Finish n) a = a ≡ finish_answer (files_of g w) w.requests n
IsUnrefused g w s a = a ≡ answer.Again → ⊥

-- how many elements suffice for each list in this step: those of the core's lists, and at a Finish as many as a file may have bytes. Our own rule
abbrev pub elements_for_step : Core → World → Step → ℕ
elements_for_step p w (step.Finish n) = max_len
elements_for_step p w s = elements_for p w s

-- memory may be short to follow an answer to this step: at a Begin as for the step itself, and at the Finish of a write that makes its file longer
abbrev pub MayLackMemory : Machine → World → Step → Type 0
MayLackMemory m w (step.Finish n) =
    is_lengthening (files_of m.core.setup w) (operation_of (entry_of w.requests n)) ≡ true
MayLackMemory m w s = IsShortOfMemory m.core w s
