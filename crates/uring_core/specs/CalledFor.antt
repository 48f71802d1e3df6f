-- The files of a history.
use Rattle.std.specs.Prelude.{◌≡◌, ℕ, List, [], ◌∷◌, Bool, true, false}
use Rattle.uring_entry.specs.Setup.{Setup}
use Rattle.uring_entry.specs.Preparation.{operation_of}
use Rattle.uring_entry.specs.Requests.{Requests, Ending, entry_of, is_running}
use Rattle.uring_files.specs.Contents.{FileContents, empty_files}
use Rattle.uring_files.specs.Operations.{after, IsOutcome}
use Rattle.uring_core.specs.World.{World}
use Rattle.uring_core.specs.StepAnswers.{CalledForApart}
use Rattle.uring_core.specs.Histories.{History, world}
use Rattle.uring_core.specs.declared.step.Step.{Step}
use Rattle.uring_core.specs.declared.step.Step.TheVariants as step
use Rattle.uring_core.specs.declared.answer.Answer.{Answer}
use Rattle.uring_core.specs.declared.answer.Answer.TheVariants as answer

-- the files after the ends of requests, in their order
abbrev pub files_after : Requests → List FileContents → List Ending → List FileContents
files_after r files [] = files
files_after r files (e ∷ later) =
    files_after r (after files (operation_of (entry_of r e.number)) e.res) later

-- The files as the ends so far have left them: each empty at first.
abbrev pub files_of : Setup → World → List FileContents
files_of g w = files_after w.requests (empty_files g.files) w.requests.ended

-- an end gives what its operation calls for on these files, or that memory was refused for a write that lengthens its file
abbrev pub EndsOn : List FileContents → Requests → ℕ → Bool → Answer → Type 0
EndsOn files r n true (answer.Ended res bytes) =
    IsOutcome files (operation_of (entry_of r n)) (record { res = res; bytes = bytes })
EndsOn files r n true _ = ⊥
EndsOn files r n false a = a ≡ answer.NotRunning

-- The answer is called for.
abbrev pub CalledFor : Setup → World → Step → Answer → Type 0
CalledFor g w (step.Finish n) a = EndsOn (files_of g w) w.requests n (is_running w.requests n) a
CalledFor g w s a = CalledForApart g w s a

-- each answer is called for by what came before it
abbrev pub IsLawful : Setup → History → Type 0
IsLawful g [] = Unit {0}
IsLawful g ((s, a) ∷ before) = CalledFor g (world g before) s a × IsLawful g before
