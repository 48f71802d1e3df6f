-- What each thread of a play leaves of the end that it was given, and a play that is whole. All of it is our own rule.
use Rattle.std.specs.Prelude.{◌≡◌, ◌⊎◌, ℕ, Bool, true, List, [], ◌++◌, length, map, Option, Result, Err}
use Rattle.std.specs.declared.thread.PromisedHandle.{PromisedHandle}
use Rattle.uring_entry.specs.Layout.{Cqe}
use Rattle.uring_entry.specs.Requests.{outstanding_in}
use Rattle.uring_entry.specs.Setup.{Setup}
use Rattle.uring_ports.specs.AppEnd.{AppEnd}
use Rattle.uring_ports.specs.Ports.{nothing_put}
use Rattle.uring_ports.specs.declared.item.Item.{Item}
use Rattle.uring_workers.specs.WorkLanes.{numbers_of_lanes}
use Rattle.uring_threads.specs.Kernel.{Kernel}
use Rattle.uring_threads.specs.Report.{Report, left_by}
use Rattle.uring_workers.specs.Worker.{Worker}
use Rattle.uring_play_text.specs.declared.play_fault.PlayFault.{PlayFault}
use Rattle.uring_play_text.specs.declared.play_fault.PlayFault.TheVariants as fault
use Rattle.uring_play.specs.Plays.{IsPlay, WritesPlay}
use Rattle.uring_play.specs.declared.ends.Application.{Application}
use Rattle.uring_play.specs.declared.ends.Ends.{Ends}
use Rattle.uring_play.specs.declared.promises.GivesWorker.{GivesWorker}

-- The application's end is still of its pair of ports.
pub record StaysApp (before after : AppEnd) : Type 0 where
  pub pairing : after.pairing ≡ before.pairing
  pub sizes : after.sizes ≡ before.sizes

-- and nothing more was submitted
pub record OnlyReaps (before after : AppEnd) : Type 0 where
  pub stays : StaysApp before after
  pub submitted : after.submitted ≡ before.submitted

-- If all is done, these calls were submitted, and the end was closed.
abbrev pub Submits : {P : Type 0} {g : _} → List (List Item) → Application P g → Type 0
Submits calls application = application.done ≡ true → application.app.submitted ≡ record {
  calls = calls;
  closed = true;
}

-- The application's thread has left its end so, of these calls.
pub record Applies {P : Type 0} {g : _} (before : AppEnd) (calls : List (List Item)) (after : Application P g) : Type 0 where
  pub stays : StaysApp before after.app
  pub submits : Submits calls after

-- The dispatcher's end is still over the same port and lanes, and of the same set-up.
pub record StaysKernel (before after : Kernel) : Type 0 where
  pub setup : after.kept.setup ≡ before.kept.setup
  pub pairing : after.pairing ≡ before.pairing
  pub sizes : after.sizes ≡ before.sizes
  pub lanes : numbers_of_lanes after.lanes ≡ numbers_of_lanes before.lanes

-- The worker still has its lanes, and as many files.
pub record StaysWorker (before after : Worker) : Type 0 where
  pub pairing : after.pairing ≡ before.pairing
  pub files : length after.files ≡ length before.files

-- and so have all workers, in their order
abbrev pub lanes_of_workers : List Worker → List (List (List ℕ))
lanes_of_workers workers = map (λ (w : Worker). w.pairing) workers

abbrev pub files_of_workers : List Worker → List ℕ
files_of_workers workers = map (λ (w : Worker). length w.files) workers

pub record StayWorkers (before after : List Worker) : Type 0 where
  pub lanes : lanes_of_workers after ≡ lanes_of_workers before
  pub files : files_of_workers after ≡ files_of_workers before

-- the thread of a worker, and the workers for which such threads were started, in their order
abbrev pub WorkerThread : Type 0
WorkerThread = PromisedHandle Worker GivesWorker

abbrev pub worker_of : WorkerThread → Worker
worker_of thread = thread.promise.0.value

abbrev pub workers_of : List WorkerThread → List Worker
workers_of threads = map worker_of threads

-- The ends of this set-up with so many workers, before anything is submitted.
pub record AreFresh {K A : Type 0} {g : _} {h : _} (s : Setup) (workers : ℕ) (ends : Ends K A g h) : Type 0 where
  pub setup : ends.kernel.kept.setup ≡ s
  pub many : length ends.workers.items ≡ workers
  pub submitted : ends.application.app.submitted ≡ nothing_put

-- The threads did all that was to be done, and settling has left nothing outstanding and nothing that waits.
pub record IsWhole (is_over : Bool) (report : Report) : Type 0 where
  pub over : is_over ≡ true
  pub none_outstanding : outstanding_in (left_by report).requests ≡ 0
  pub none_waits : report.waiting ≡ []

-- memory was refused, or something was left undone, and nothing is written
abbrev pub WritesNothing : Result (Unit {0}) PlayFault → Option (List ℕ) → Option (List ℕ) → Type 0
WritesNothing answer before after = (answer ≡ Err fault.Memory) × (after ≡ before)

-- If that is so, it is written with the completions that were received and after them those that weren't; else nothing is.
abbrev pub WritesWhole : Bool → Report → List Cqe → Result (Unit {0}) PlayFault → Option (List ℕ)
    → Option (List ℕ) → Type 0
WritesWhole is_over report received answer before after =
    (IsWhole is_over report
    × WritesPlay answer before after report.trace (received ++ report.undelivered))
    ⊎ WritesNothing answer before after

-- A play of these calls by ends of this set-up, with so many workers, is written.
pub record WritesPlayed (g : Setup) (workers : ℕ) (calls : List (List Item)) (answer : Result (Unit {0}) PlayFault) (before after : Option (List ℕ)) : Type 0 where
  pub report : Report
  pub setup : report.setup ≡ g
  pub many : report.workers ≡ workers
  pub completions : List Cqe
  pub play : IsPlay g calls report.trace completions
  pub written : WritesPlay answer before after report.trace completions

-- or nothing is
abbrev pub EndsPlay : Setup → ℕ → List (List Item) → Result (Unit {0}) PlayFault → Option (List ℕ)
    → Option (List ℕ) → Type 0
EndsPlay g workers calls answer before after =
    WritesPlayed g workers calls answer before after ⊎ WritesNothing answer before after
