-- What a machine whose power may fail is asked of its files and of memory. Our own rule.
use Rattle.std.specs.Prelude.{◌≡◌, ℕ, ℤ, pos, negsuc, Bool, true, List, Option, None, slice_get}
use Rattle.uring_entry.specs.Preparation.{operation_of}
use Rattle.uring_entry.specs.Requests.{entry_of, is_running}
use Rattle.uring_files.specs.Contents.{FileContents}
use Rattle.uring_files.specs.Operations.{result_of}
use Rattle.uring_volume.specs.Choices.{issued, named, has_safe}
use Rattle.uring_core.specs.World.{World}
use Rattle.uring_core.specs.declared.answer.Answer.{Answer}
use Rattle.uring_core.specs.declared.answer.Answer.TheVariants as answer
use Rattle.uring_core.specs.declared.step.Step.{Step}
use Rattle.uring_core.specs.declared.step.Step.TheVariants as step
use Rattle.uring_crash_machine.specs.Logs.{Log, number_of}

-- what is kept of the file of a descriptor, if there is one
abbrev pub log_at : List Log → ℤ → Option Log
log_at logs (pos fd) = slice_get logs fd
log_at logs (negsuc below) = None

-- whether the write that a request is is safe: false too if it is no write of this file
abbrev pub is_safe_of : ℕ → Log → Bool
is_safe_of n log =
    has_safe log.volume.history (named (number_of n log.requests) (issued log.volume.history))

-- the answer to this step on these files refuses no memory: a Finish of what runs ends as its operation calls for, and no other step is answered Again
abbrev pub IsUnrefusedOn : List FileContents → World → Step → Answer → Type 0
IsUnrefusedOn files w (step.Finish n) a =
    is_running w.requests n ≡ true
    → a ≡ answer.Ended (result_of files (operation_of (entry_of w.requests n))).res (result_of files (operation_of (entry_of w.requests n))).bytes
IsUnrefusedOn files w s a = a ≡ answer.Again → ⊥
