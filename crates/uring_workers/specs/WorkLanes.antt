-- What lies in the lanes between the dispatcher and the workers. All of it is our own rule.
use Rattle.std.specs.Prelude.{◌≡◌, ℕ, ◌<◌, ◌≤◌, List, [], ◌∷◌, ◌++◌, length, map, get_or}
use Rattle.rtrb.specs.Ring.{sent, known_free, producer_capacity, received, known_items, consumer_capacity, SameProducer, SameConsumer}
use Rattle.uring_workers.specs.Pairings.{pairing_of}
use Rattle.uring_workers.specs.declared.job.Job.{Job}
use Rattle.uring_workers.specs.declared.job.JobResult.{JobResult}
use Rattle.uring_workers.specs.declared.work_lanes.WorkLanes.{WorkLanes}

-- the jobs that were sent through the lanes of a worker, oldest first
abbrev pub jobs_sent : WorkLanes → List Job
jobs_sent lanes = sent lanes.jobs

-- the results that were received through them, oldest first
abbrev pub results_received : WorkLanes → List JobResult
results_received lanes = received lanes.results

-- the results that were seen there and not received, oldest first
abbrev pub results_seen : WorkLanes → List JobResult
results_seen lanes = known_items lanes.results

-- how many results may be on their way
abbrev pub results_held : WorkLanes → ℕ
results_held lanes = consumer_capacity lanes.results

-- nothing went through any of these lanes
abbrev pub HaveCarriedNone : List WorkLanes → Type 0
HaveCarriedNone lanes = (k : ℕ) (d : WorkLanes) → k < length lanes
    → (jobs_sent (get_or lanes k d) ≡ []) × (results_received (get_or lanes k d) ≡ [])

-- each worker's lane for jobs holds 64
abbrev pub HoldJobs : List WorkLanes → Type 0
HoldJobs lanes =
    (k : ℕ) (d : WorkLanes) → k < length lanes → producer_capacity (get_or lanes k d).jobs ≡ 64

-- each worker's lane for results holds at most 64
abbrev pub HoldResults : List WorkLanes → Type 0
HoldResults lanes =
    (k : ℕ) (d : WorkLanes) → k < length lanes → results_held (get_or lanes k d) ≤ 64

-- which lanes these are, as numbers that the workers' ends of them have too, worker 0's first
abbrev pub numbers_of_lanes : List WorkLanes → List (List (List ℕ))
numbers_of_lanes lanes = map (λ (l : WorkLanes). pairing_of l.jobs l.results) lanes

-- each worker's lane for jobs shows room
abbrev pub ShowRoom : List WorkLanes → Type 0
ShowRoom lanes = (k : ℕ) (d : WorkLanes) → k < length lanes → 0 < known_free (get_or lanes k d).jobs

-- some worker's lane for jobs shows none
abbrev pub SomeIsFull : List WorkLanes → Type 0
SomeIsFull lanes =
    (k : ℕ) × (k < length lanes) × ((d : WorkLanes) → known_free (get_or lanes k d).jobs ≡ 0)

-- the same lanes, and nothing was sent or received
pub record IsLookedAt (old new : WorkLanes) : Type 0 where
  pub jobs : jobs_sent new ≡ jobs_sent old
  pub ring : SameProducer old.jobs new.jobs
  pub results : new.results ≡ old.results

-- the same lanes, and this job was sent
pub record IsSent (job : Job) (old new : WorkLanes) : Type 0 where
  pub jobs : jobs_sent new ≡ jobs_sent old ++ job ∷ []
  pub ring : SameProducer old.jobs new.jobs
  pub results : new.results ≡ old.results

-- the same lanes, and no job was sent
pub record OnlyReceives (old new : WorkLanes) : Type 0 where
  pub jobs : new.jobs ≡ old.jobs
  pub ring : SameConsumer old.results new.results

-- The same lanes still, of each worker.
pub record AreSameLanes (old new : List WorkLanes) : Type 0 where
  pub many : length new ≡ length old
  pub jobs : (k : ℕ) (d : WorkLanes) → k < length old
      → SameProducer (get_or old k d).jobs (get_or new k d).jobs
  pub results : (k : ℕ) (d : WorkLanes) → k < length old
      → SameConsumer (get_or old k d).results (get_or new k d).results
