-- A play in which all went through: its trace published all items, and nothing is left.
use Rattle.std.proofs.Common.{◌≡◌, ℕ, ◌+◌, true, List, [], ◌∷◌, ◌++◌, ◌<◌, length, map, sum, refl, sym, ap, ◌∙◌, arith, append-nil}
use Rattle.std.proofs.lemmas.List.{get_or-map, length-map}
use Rattle.std.proofs.lemmas.List.Sums.{sum_by_push, sum_by-cons}
use Rattle.uring_entry.specs.Requests.{outstanding_in}
use Rattle.uring_entry.specs.Setup.{Setup}
use Rattle.uring_core.specs.CalledFor.{IsLawful}
use Rattle.uring_core.specs.Events.{accepted_by}
use Rattle.uring_laws.specs.Direct.{told}
use Rattle.uring_core.specs.Histories.{Event, History, world, history_of}
use Rattle.uring_entry.specs.Submission.{published_items}
use Rattle.uring_laws.proofs.DirectRequests.{direct_requests}
use Rattle.uring_core.proofs.Following.{history_of_cons}
use Rattle.uring_laws.proofs.WholeLaws.{lawful_apart}
use Rattle.uring_ports.specs.AppEnd.{AppEnd}
use Rattle.uring_ports.specs.Ports.{Put}
use Rattle.uring_ports.specs.declared.item.Item.{Item}
use Rattle.uring_threads.specs.Kept.{now}
use Rattle.uring_threads.specs.Kernel.{Kernel, IsIdle}
use Rattle.uring_threads.specs.Report.{Report, AreTogether, left_by, FinishesAll, PublishesItems, ClosesOnlyAllTaken, DeliversReaped, ReapsPosted, all_waiting}
use Rattle.uring_threads.specs.Settled.{finish_of}
use Rattle.uring_workers.specs.Worker.{Worker}
use Rattle.uring_workers.specs.declared.job.JobResult.{JobResult}
use Rattle.uring_play.specs.Plays.{IsPlay}
use Rattle.uring_play.specs.Threads.{StaysApp, StaysKernel, StayWorkers}
use Rattle.uring_play.specs.Totals.{accepted_in, accepted_of}

-- ---- a ring that is closed stays so while results are taken in

closed_later : (g : Setup) (trace : List Event) (results : List JobResult) (h : History)
    → (world g (history_of (trace ++ map finish_of results) ++ h)).is_closed
    ≡ (world g (history_of trace ++ h)).is_closed
closed_later g [] [] h = refl
closed_later g [] (r ∷ results) h = rw (history_of_cons (finish_of r) (map finish_of results) h) (closed_later g [] results (finish_of r ∷ h))
closed_later g (e ∷ trace) results h = rw (history_of_cons e (trace ++ map finish_of results) h, history_of_cons e trace h) (closed_later g trace results (e ∷ h))

-- ---- all went through

-- what settling gave of ends that were done is a play of these calls
pub is_play : (calls : List (List Item)) (app : AppEnd) (kernel : Kernel) (workers : List Worker) {r : Report}
    → r.setup ≡ kernel.kept.setup → IsLawful r.setup (history_of r.trace)
    → FinishesAll kernel.kept.trace kernel.lanes workers r → PublishesItems app.submitted r
    → ClosesOnlyAllTaken app.submitted r → DeliversReaped app.received r → ReapsPosted r
    → IsIdle (now kernel.kept) → app.submitted ≡ record { calls = calls; closed = true }
    → outstanding_in (left_by r).requests ≡ 0 → r.waiting ≡ []
    → IsPlay kernel.kept.setup calls r.trace (app.received ++ r.undelivered)
is_play calls app kernel workers {r} setup lawful trace items closed reaped posted idle submitted none_outstanding none_waits =
    let shut : (left_by r).is_closed ≡ true = rw (setup, trace) ((simp append-nil at (closed_later kernel.kept.setup kernel.kept.trace (all_waiting kernel.lanes workers) [])) ∙ idle.closed) in
    let went = closed shut in
    let calls_are : app.submitted.calls ≡ calls = ap (λ (p : Put). p.calls) submitted in
    rw (← setup) (record {
      lawful = lawful;
      published = cc (items, went.unsent, append-nil (published_items (left_by r).submission), calls_are);
      cut = cc (went.calls, calls_are);
      none_outstanding = none_outstanding;
      reaped = sym reaped;
      none_waits = sym posted ∙ rw none_waits (append-nil _) ∙ sym reaped;
    })

-- ---- how many requests were accepted

told_all : (events : List Event) (h : History)
    → sum (told accepted_by (history_of events ++ h))
    ≡ sum (told accepted_by h) + accepted_in events
told_all [] h = omega arith
told_all (e ∷ events) h =
    rw (history_of_cons e events h) (grind (arith, told_all events (e ∷ h), sum_by_push (λ k. k) (told accepted_by h), sum_by-cons accepted_of e events))

-- the calls of a lawful trace accepted as many requests as there are
pub accepted_total : (g : Setup) (trace : List Event) → IsLawful g (history_of trace)
    → accepted_in trace ≡ length (world g (history_of trace)).requests.accepted
accepted_total g trace lawful =
    let direct = direct_requests g (history_of trace) (lawful_apart g (history_of trace) lawful) in
    let all = rw (append-nil (history_of trace)) at (told_all trace []) in
    omega (arith, all, direct.counted)

-- ---- the ends after their threads

-- there are still as many workers
pub as_many : (before after : List Worker) → StayWorkers before after
    → length after ≡ length before
as_many before after so = cc (so.files, length-map after (λ (w : Worker). length w.files), length-map before (λ (w : Worker). length w.files))

-- the ends are still all of one set-up
pub still_together : {app app_after : AppEnd} {kernel kernel_after : Kernel} {workers workers_after : List Worker}
    → AreTogether app kernel workers
    → StaysApp app app_after → StaysKernel kernel kernel_after
    → StayWorkers workers workers_after → AreTogether app_after kernel_after workers_after
still_together {workers = workers} {workers_after = workers_after} t applies stays so =
    let count : Worker → ℕ = λ w. length w.files in
    record {
      ports = stays.pairing ∙ t.ports ∙ sym applies.pairing;
      sizes = stays.sizes ∙ t.sizes ∙ sym applies.sizes;
      lanes = so.lanes ∙ t.lanes ∙ sym stays.lanes;
      files = λ k e low.
          let before : k < length workers = omega (arith, low, as_many workers workers_after so) in
          cc (get_or-map count workers_after k e (count e) low, so.files, get_or-map count workers k e (count e) before, t.files k e before, stays.setup);
    }
