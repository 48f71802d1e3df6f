use Rattle.std.proofs.Common.{◌≡◌, ◌++◌, sym, ap, ◌∙◌}
use Rattle.uring_threads.proofs.Common.{jobs_of, jobs_sent, results_of, results_seen}
use Rattle.uring_threads.proofs.SettledWorkers.{settled_at}
use Rattle.uring_threads.proofs.settle_work.settle_worker.Goals as goal

pub returns-clause-settled : goal.returns-clause-settled
returns-clause-settled g c = λ workers k carried.
    let seen = c.see_all.ensures in
    let same : c.see_all.new.self.done ≡ c.args.worker.now.done = ap (λ w. w.done) seen.worker.same in
    settled_at c.args.kept.now c.take_waiting.new.kept workers k c.args.worker.now.done c.see_all.new.self.seen (results_seen c.see_all.new.lanes) c.args.lanes.now c.is_lawful.ensures.lawful carried
    (ap (λ ds. jobs_of ds ++ c.see_all.new.self.seen) (sym same) ∙ seen.jobs ∙ seen.dispatcher.0)
    (ap (λ rs. rs ++ results_seen c.see_all.new.lanes) (sym seen.dispatcher.1) ∙ seen.results ∙ ap results_of same)
    c.take_waiting.ensures.trace
    c.take_waiting.new.lanes
    (ap (λ jobs. jobs_sent (record c.see_all.new.lanes { jobs = jobs })) c.take_waiting.ensures.lanes.jobs ∙ seen.dispatcher.0)
    (c.take_waiting.ensures.results.0 ∙ ap (λ rs. rs ++ results_seen c.see_all.new.lanes) seen.dispatcher.1)
