-- Settling all ends of a set-up: which ends can be settled, and what is reported of them. All of it is our own rule.
use Rattle.std.specs.Prelude.{◌≡◌, ◌↔◌, ℕ, ◌==◌, Bool, true, List, [], ◌∷◌, ◌++◌, length, map, drop, count_by, All, if◌then◌else◌}
use Rattle.std.specs.List.{list_any}
use mathlib.Core.List.{IsPrefix}
use Rattle.uring_entry.specs.Layout.{Cqe}
use Rattle.uring_entry.specs.Setup.{Setup}
use Rattle.uring_entry.specs.Submission.{taken, published_items}
use Rattle.uring_entry.specs.Requests.{is_running}
use Rattle.uring_core.specs.Histories.{Event, world, history_of}
use Rattle.uring_core.specs.World.{World}
use Rattle.uring_ports.specs.AppEnd.{AppEnd}
use Rattle.uring_ports.specs.Items.{all_published_as}
use Rattle.uring_ports.specs.Ports.{Put, items_of_calls}
use Rattle.uring_ports.specs.declared.item.Item.{Item}
use Rattle.uring_workers.specs.Work.{results_of}
use Rattle.uring_workers.specs.declared.job.JobResult.{JobResult}
use Rattle.uring_workers.specs.WorkLanes.{jobs_sent, results_received, numbers_of_lanes}
use Rattle.uring_threads.specs.Calls.{lengths_of}
use Rattle.uring_threads.specs.Kept.{IsUnmoved}
use Rattle.uring_threads.specs.Kernel.{Kernel}
use Rattle.uring_threads.specs.Settled.{finish_of}
use Rattle.uring_threads.specs.Tallies.{closes_ring}
use Rattle.uring_workers.specs.Worker.{Worker}
use Rattle.uring_workers.specs.declared.job.Job.{Job}
use Rattle.uring_workers.specs.declared.work_lanes.WorkLanes.{WorkLanes}

-- All the ends of one set-up, the workers in their order: the two ports are a pair, the dispatcher's lanes are those of the workers, and each worker has as many files as there are. No call of an end changes any of it.
pub record AreTogether (app : AppEnd) (kernel : Kernel) (workers : List Worker) : Type 0 where
  pub ports : kernel.pairing ≡ app.pairing
  pub sizes : kernel.sizes ≡ app.sizes
  pub lanes : map (λ (w : Worker). w.pairing) workers ≡ numbers_of_lanes kernel.lanes
  pub files : All (λ (w : Worker). length w.files ≡ kernel.kept.setup.files) workers

-- What is reported: the set-up, how many workers there are, and the dispatcher's trace over the set-up, the oldest event first; the items that were submitted and not published; the completions that the trace has reaped and the application hasn't; and those that were posted and not reaped. Each list is in order.
pub record Report : Type 0 where
  pub setup : Setup
  pub workers : ℕ
  pub trace : List Event
  pub unsent : List Item
  pub undelivered : List Cqe
  pub waiting : List Cqe

-- what the trace of a report has made
abbrev pub left_by : Report → World
left_by r = world r.setup (history_of r.trace)

-- the results of a worker that weren't received, and those of all workers, worker 0's first
abbrev pub waiting_at : WorkLanes → Worker → List JobResult
waiting_at lanes worker = drop (length (results_received lanes)) (results_of worker.done)

abbrev pub all_waiting : List WorkLanes → List Worker → List JobResult
all_waiting (l ∷ lanes) (w ∷ workers) = waiting_at l w ++ all_waiting lanes workers
all_waiting lanes workers = []

-- The trace is this one, and then one Finish for each result that waited on these lanes of these workers, worker 0's first.
abbrev pub FinishesAll : List Event → List WorkLanes → List Worker → Report → Type 0
FinishesAll trace lanes workers r = r.trace ≡ trace ++ map finish_of (all_waiting lanes workers)

-- the jobs that were sent to a worker and that it hasn't taken, and those of all workers, worker 0's first
abbrev pub untaken_at : WorkLanes → Worker → List Job
untaken_at lanes worker = drop (length worker.done) (jobs_sent lanes)

abbrev pub all_untaken : List WorkLanes → List Worker → List Job
all_untaken (l ∷ lanes) (w ∷ workers) = untaken_at l w ++ all_untaken lanes workers
all_untaken lanes workers = []

-- whether one of these jobs is of this request
abbrev pub has_job : List Job → ℕ → Bool
has_job jobs n = list_any (λ job. job.number == n) jobs

-- The requests that run are those whose jobs were sent and taken by no worker.
abbrev pub LeavesRunning : List WorkLanes → List Worker → Report → Type 0
LeavesRunning lanes workers r = (n : ℕ)
    → (is_running (left_by r).requests n ≡ true) ↔ (has_job (all_untaken lanes workers) n ≡ true)

-- What was published and then what is unsent is what was submitted, in order.
abbrev pub PublishesItems : Put → Report → Type 0
PublishesItems submitted r = published_items (left_by r).submission ++ all_published_as r.unsent
    ≡ all_published_as (items_of_calls submitted.calls)

-- The calls begin the calls that were submitted, each as long as it was submitted, by Linux's rules cut after each word that names no slot.
abbrev pub BeginsCalls : Put → Report → Type 0
BeginsCalls submitted r =
    IsPrefix (left_by r).submission.calls (lengths_of r.setup submitted.calls)

-- A Close stands in the trace once if the ring is closed, and else not at all.
abbrev pub HasOneClose : Report → Type 0
HasOneClose r = count_by closes_ring r.trace ≡ (if (left_by r).is_closed then 1 else 0)

-- All of it went through: the application closed its end, all that it submitted was published and taken, and the calls are those that it submitted.
pub record WentThrough (submitted : Put) (r : Report) : Type 0 where
  pub closed : submitted.closed ≡ true
  pub unsent : r.unsent ≡ []
  pub calls : (left_by r).submission.calls ≡ lengths_of r.setup submitted.calls
  pub taken : taken (left_by r).submission ≡ length (left_by r).submission.published

-- If the ring is closed, all of it went through.
abbrev pub ClosesOnlyAllTaken : Put → Report → Type 0
ClosesOnlyAllTaken submitted r = (left_by r).is_closed ≡ true → WentThrough submitted r

-- What the application received and then what is undelivered is what was reaped.
abbrev pub DeliversReaped : List Cqe → Report → Type 0
DeliversReaped received r = received ++ r.undelivered ≡ (left_by r).completions.reaped

-- What was reaped and then what waits is what was posted.
abbrev pub ReapsPosted : Report → Type 0
ReapsPosted r = (left_by r).completions.reaped ++ r.waiting ≡ (left_by r).completions.posted

-- Nothing of the dispatcher's end changed, though its trace may have more memory.
pub record IsSameKernel (old new : Kernel) : Type 0 where
  pub kept : IsUnmoved old.kept new.kept
  pub others : new ≡ record old { kept = new.kept }
