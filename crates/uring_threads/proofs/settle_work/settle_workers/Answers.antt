use Rattle.std.proofs.Common.{rules, ◌≡◌, length, get_or, subst, arith}
use Rattle.uring_threads.proofs.SettledWorkers.{SoFar, SettlesOne, none_so_far, next_paired, next_fits, one_more, all_recorded, all_settled, all_seen}
use Rattle.uring_threads.proofs.settle_work.settle_workers.Goals as goal

pub loop-k-init : goal.loop-k-init
loop-k-init g c = none_so_far c.args.kept.now c.args.lanes.now c.args.workers.now c.requires.carried

pub settle_worker-requires : goal.settle_worker-requires
settle_worker-requires g c =
    record {
      pairing = next_paired c.args.kept.now c.loop-k.kept c.args.lanes.now c.loop-k.lanes c.args.workers.now c.loop-k.workers c.loop-k.k c.args.kept.now.setup.files c.index-lanes-k.result c.index-workers-k.result c.loop-k.invariant c.loop-k-test.true c.requires.lanes;
      room = next_fits c.args.kept.now c.loop-k.kept c.args.lanes.now c.loop-k.lanes c.args.workers.now c.loop-k.workers c.loop-k.k c.args.kept.now.setup.files c.index-lanes-k.result c.index-workers-k.result c.loop-k.invariant c.loop-k-test.true c.requires.lanes c.requires.room;
      carried = (length c.args.lanes.now, c.loop-k.k, c.loop-k.invariant.carried c.loop-k.k c.index-lanes-k.result c.loop-k-test.true);
    }

pub loop-k-preserved : goal.loop-k-preserved
loop-k-preserved g c =
    let m = c.index-lanes-k.result in
    let v = c.index-workers-k.result in
    let one : SettlesOne c.loop-k.kept c.settle_worker.new.kept (get_or c.loop-k.lanes c.loop-k.k m) c.settle_worker.new.lanes (get_or c.loop-k.workers c.loop-k.k v) c.settle_worker.new.worker =
    record { trace = c.settle_worker.ensures.trace; few = c.settle_worker.ensures.few; settled = c.settle_worker.ensures.settled; looks = c.settle_worker.ensures.worker; right = c.settle_worker.ensures.right } in
    one_more c.args.kept.now c.loop-k.kept c.settle_worker.new.kept c.args.lanes.now c.loop-k.lanes c.args.workers.now c.loop-k.workers c.loop-k.k c.args.kept.now.setup.files m v c.settle_worker.new.lanes c.settle_worker.new.worker
    c.loop-k.invariant c.loop-k-test.true c.requires.lanes one

pub returns : goal.returns
returns g c =
    let end : c.loop-k.k ≡ length c.args.lanes.now = search (rules, arith) in
    let all = subst (SoFar c.args.kept.now c.loop-k.kept c.args.lanes.now c.loop-k.lanes c.args.workers.now c.loop-k.workers) end c.loop-k.invariant in
    record {
      trace = all_recorded c.args.kept.now c.loop-k.kept c.args.lanes.now c.loop-k.lanes c.args.workers.now c.loop-k.workers all c.requires.lanes.many;
      few = all.few;
      settled = λ e. all_settled c.args.kept.now c.loop-k.kept c.args.lanes.now c.loop-k.lanes c.args.workers.now c.loop-k.workers e all c.requires.some c.requires.lanes c.is_lawful.ensures.lawful;
      workers = record { many = all.many_workers; looked = λ k e lt. all.looked k e };
      seen = all_seen c.args.kept.now c.loop-k.kept c.args.lanes.now c.loop-k.lanes c.args.workers.now c.loop-k.workers all c.requires.carried;
    }
