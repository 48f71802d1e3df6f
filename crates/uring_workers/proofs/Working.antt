-- A worker that carries out one job more goes on to work.
use Rattle.std.proofs.Common.{◌≡◌, ℕ, Option, List, [], ◌∷◌, ◌++◌, refl, sym, subst, ◌∙◌, ap}
use Rattle.std.proofs.lemmas.List.{map-append}
use Rattle.uring_entry.specs.declared.operation.Outcome.{Outcome}
use Rattle.uring_files.specs.Contents.{FileContents}
use Rattle.uring_files.specs.Operations.{after, IsOutcome}
use Rattle.uring_files.proofs.OperationCases.{many_after}
use Rattle.uring_files.specs.Done.{Done}
use Rattle.uring_files.proofs.DoneLemmas.{left_snoc, done_snoc}
use Rattle.uring_ports.specs.Lanes.{numbers_of}
use Rattle.uring_workers.specs.declared.job.Job.{Job}
use Rattle.uring_workers.specs.declared.job.JobResult.{JobResult}
use Rattle.uring_workers.specs.Work.{job_of, result_of, jobs_of, results_of}
use Rattle.rtrb.specs.declared.end.End.{End}
use Rattle.uring_workers.specs.Worker.{Worker, done_of, IsWorking}

-- jobs and results of the same operations are theirs, also after one more
done_of_own : (done : List Done) (d : Done)
    → done_of (jobs_of done ++ job_of d ∷ []) (results_of done ++ result_of d ∷ []) ≡ done ++ d ∷ []
done_of_own [] d = refl
done_of_own (first ∷ later) d = ap (λ xs. first ∷ xs) (done_of_own later d)

-- the operation of a job that ended so
abbrev pub done_as : Job → Outcome → Done
done_as j outcome = record { number = j.number; op = j.op; outcome = outcome }

pub done_of_snoc : (jobs : List Job) (results : List JobResult) (files : List FileContents)
    → IsWorking jobs results files → (j : Job) (outcome : Outcome)
    → done_of (jobs ++ j ∷ []) (results ++ record { number = j.number; outcome = outcome } ∷ [])
    ≡ done_of jobs results ++ done_as j outcome ∷ []
done_of_snoc jobs results files w j outcome =
    cc (w.jobs_done, w.results_done, done_of_own (done_of jobs results) (done_as j outcome))

pub goes_on : (jobs : List Job) (results : List JobResult) (files : List FileContents)
    → IsWorking jobs results files → (j : Job) (outcome : Outcome) → IsOutcome files j.op outcome
    → IsWorking (jobs ++ j ∷ []) (results ++ record { number = j.number; outcome = outcome } ∷ []) (after files j.op outcome.res)
goes_on jobs results files w j outcome right =
    let done : List Done = done_of jobs results in
    let d : Done = done_as j outcome in
    let more = done_of_snoc jobs results files w j outcome in
    record {
      jobs_done = cc (w.jobs_done, more, map-append job_of done (d ∷ []));
      results_done = cc (w.results_done, more, map-append result_of done (d ∷ []));
      right = rw (more, many_after files j.op outcome.res) (done_snoc _ done d w.right (subst (λ fs. IsOutcome fs j.op outcome) w.left right));
      left = rw (more, many_after files j.op outcome.res) (ap (λ fs. after fs j.op outcome.res) w.left ∙ sym (left_snoc _ done d));
    }

-- ends of lanes with the same words, slots and names have the same numbers
pub same_ring : {T A P : Type 0} (a b : End T A P) → a.words ≡ b.words → a.slots ≡ b.slots
    → a.names ≡ b.names → numbers_of a ≡ numbers_of b
same_ring a b words slots names = cc

-- workers whose parts are the same are the same
pub same_worker : (place : ℕ) {jobs others results pairs : List ℕ} {done same : List Done} {files these : List FileContents} {passed times : ℕ} {last number : Option ℕ} {seen : List Job} {room : ℕ}
    → jobs ≡ others → results ≡ pairs → done ≡ same → files ≡ these → passed ≡ times → last ≡ number
    → ◌≡◌ {A = Worker} (record { place = place; pairing = jobs ∷ results ∷ []; done = done; files = files; passed = passed; last_passed = last; seen = seen; room = room }) (record { place = place; pairing = others ∷ pairs ∷ []; done = same; files = these; passed = times; last_passed = number; seen = seen; room = room })
same_worker place j r d f p n = cc
