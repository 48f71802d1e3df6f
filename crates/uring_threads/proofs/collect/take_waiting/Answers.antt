use Rattle.std.proofs.Common.{rules, ◌≡◌, [], ◌∷◌, ◌++◌, subst, arith}
use Rattle.uring_threads.proofs.Common.{TakesAll, Wait, WorkLanes, results_received, results_seen}
use Rattle.uring_threads.proofs.Collecting.{first_waits, next_waits, takes_in}
use Rattle.uring_threads.proofs.SettledWorkers.{drains_none, drains_one, room_left, drained}
use Rattle.uring_threads.proofs.collect.take_waiting.Goals as goal

pub loop-taken-init : goal.loop-taken-init
loop-taken-init c = (search rules, drains_none c.args.kept.now (results_seen c.args.lanes.now) (results_received c.args.lanes.now) c.requires.work)

pub pop_known-result-requires : goal.pop_known-result-requires
pop_known-result-requires c =
    (room_left c.args.kept.now c.loop-taken.kept (results_seen c.args.lanes.now) (results_seen c.loop-taken.lanes) (results_received c.args.lanes.now) (results_received c.loop-taken.lanes) c.loop-taken._taken c.loop-taken.invariant.1 c.requires.room (search (rules, arith))).1

pub finish-requires : goal.finish-requires
finish-requires c = record {
  room =
      (room_left c.args.kept.now c.loop-taken.kept (results_seen c.args.lanes.now) (results_seen c.loop-taken.lanes) (results_received c.args.lanes.now) (results_received c.loop-taken.lanes) c.loop-taken._taken c.loop-taken.invariant.1 c.requires.room (search (rules, arith))).0;
}

pub loop-taken-preserved : goal.loop-taken-preserved
loop-taken-preserved c =
    let result = c.pop_known-result.result in
    let received = c.pop_known-result.ensures.received in
    let later : WorkLanes = record c.loop-taken.lanes { results = c.pop_known-result.new.self } in
    let work : Wait c.loop-taken.kept (result ∷ results_seen later) = subst (Wait c.loop-taken.kept) received.1 c.loop-taken.invariant.1.left in
    let waits = first_waits c.loop-taken.kept result (results_seen later) c.is_lawful.ensures.lawful work in
    let grows = takes_in c.loop-taken.kept c.finish.new.self result c.finish.result waits.runs c.finish.ensures.outcome c.finish.ensures.grows in (
      search rules,
      drains_one c.args.kept.now c.loop-taken.kept c.finish.new.self (results_seen c.args.lanes.now) (results_seen c.loop-taken.lanes) (results_seen later) (results_received c.args.lanes.now) (results_received c.loop-taken.lanes) (results_received later) c.loop-taken._taken
          c.loop-taken.invariant.1 (result, received.1, received.0, grows) (next_waits c.loop-taken.kept c.finish.new.self result (results_seen later) c.is_lawful.ensures.lawful work grows),
    )

all_taken : (c : goal.After-loop-taken)
    → TakesAll c.args.kept.now c.loop-taken.kept (results_seen c.args.lanes.now)
    × (results_received c.loop-taken.lanes ≡ results_received c.args.lanes.now ++ results_seen c.args.lanes.now)
    × (results_seen c.loop-taken.lanes ≡ [])
all_taken c =
    drained c.args.kept.now c.loop-taken.kept (results_seen c.args.lanes.now) (results_seen c.loop-taken.lanes) (results_received c.args.lanes.now) (results_received c.loop-taken.lanes) c.loop-taken._taken c.loop-taken.invariant.1 (search (rules, arith))

pub returns-clause-trace : goal.returns-clause-trace
returns-clause-trace c = (all_taken c).0

pub returns-clause-results : goal.returns-clause-results
returns-clause-results c = let all = all_taken c in (all.1, all.2)
