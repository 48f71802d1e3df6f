use Rattle.std.proofs.Common.{◌+◌, List, length, ap, sym, ◌∙◌, arith}
use Rattle.std.proofs.lemmas.List.{length_push}
use Rattle.uring_workers.specs.Opened.{IsFreshWorker}
use Rattle.uring_workers.specs.declared.work_lanes.WorkLanes.{WorkLanes}
use Rattle.uring_workers.proofs.FreshWorkers.{all_empty, both, opened_next}
use Rattle.uring_workers.proofs.Working.{same_ring}
use Rattle.uring_workers.proofs.work_lanes.open_next.Goals as goal

pub new-worker-requires-clause-files : goal.new-worker-requires-clause-files
new-worker-requires-clause-files g c = all_empty _ c.args.files c.in_ok-files.ensures.ok

pub returns-clause-many : goal.returns-clause-many
returns-clause-many g c = ap length c.push_reserved.ensures.items ∙ length_push c.reserve.new.list.items _ ∙ ap (λ (xs : List WorkLanes). length xs + 1) c.reserve.ensures.items

pub returns-clause-opened : goal.returns-clause-opened
returns-clause-opened g c =
    let jobs = c.in_ok-jobs.ensures in
    let results = c.in_ok-done.ensures in
    let new = c.new-worker.ensures in
    let made : WorkLanes = record { jobs = c.in_ok-jobs.jobs; results = c.in_ok-done.results } in
    let many = ap length c.reserve.ensures.items in
    let fresh : IsFreshWorker c.args.files (length c.args.lanes.now.items) c.new-worker.result = record { place = new.place ∙ omega (arith, c.len.ensures, many, c.reserve.new.list.ok.0); done = new.done; empty = new.files ∙ c.in_ok-files.ensures.ok; passed = new.passed } in
    opened_next c.args.files c.args.lanes.now.items c.args.workers.now.items made c.new-worker.result c.push_reserved.ensures.items c.reserve.ensures.items c.push_reserved-2.ensures.items c.reserve-2.ensures.items
    c.requires.opened jobs.producer.0 results.consumer.0 jobs.producer.2 results.consumer.2
    (new.pairing ∙ both (same_ring c.in_ok-jobs.to_do.end c.in_ok-jobs.jobs.end jobs.pair.0 jobs.pair.1 jobs.pair.2) (sym (same_ring c.in_ok-done.results.end c.in_ok-done.done.end results.pair.0 results.pair.1 results.pair.2))) fresh

pub push_reserved-requires : goal.push_reserved-requires
push_reserved-requires g c = omega (arith, c.in_ok-reserve.ensures.ok)

pub push_reserved-requires-2 : goal.push_reserved-requires-2
push_reserved-requires-2 g c = omega (arith, c.in_ok-reserve-2.ensures.ok)
