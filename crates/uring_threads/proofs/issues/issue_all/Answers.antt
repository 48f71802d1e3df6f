use Rattle.uring_threads.proofs.Common.{AreSameLanes, HaveCarried, IsUnmoved, Kept, false≢true}
use Rattle.std.proofs.Common.{length, ap, arith, ◌+◌}
use Rattle.uring_core.specs.declared.step.Step.TheVariants as step
use Rattle.uring_threads.proofs.Collecting.{on_err}
use Rattle.uring_threads.proofs.Issuing.{looked_on, issued_length}
use Rattle.uring_threads.proofs.Repeating.{repeats_none, repeats_still, repeats_then}
use Rattle.uring_threads.proofs.SameLanes.{lanes_none, lanes_then}
use Rattle.uring_threads.proofs.TraceSteps.{still}
use Rattle.uring_threads.proofs.issues.issue_all.Given.{Over}
use Rattle.uring_threads.proofs.issues.issue_all.Goals.{After-all_show_room}
use Rattle.uring_threads.proofs.issues.issue_all.Goals as goal

-- the lanes were looked at, and room may have been asked for
looked : (g : Over) (c : After-all_show_room g) (r : Kept) → IsUnmoved c.loop-count.kept r
    → HaveCarried r c.all_show_room.new.lanes × AreSameLanes c.args.lanes.now c.all_show_room.new.lanes
looked g c r u = looked_on c.loop-count.kept r c.args.lanes.now c.loop-count.lanes c.all_show_room.new.lanes u c.all_show_room.ensures.length c.all_show_room.ensures.looked c.loop-count.invariant.carried c.loop-count.invariant.lanes

pub loop-count-init : goal.loop-count-init
loop-count-init g c =
    record { events = omega arith; limit = omega arith; carried = c.requires.carried; lanes = lanes_none c.args.lanes.now; repeats = repeats_none step.Issue (still c.args.kept.now) }

pub returns-then-not-all_show_room-clause-carried : goal.returns-then-not-all_show_room-clause-carried
returns-then-not-all_show_room-clause-carried g c = (looked g (goal.at.returns-then-not-all_show_room-clause-carried g c).After-all_show_room c.loop-count.kept (still c.loop-count.kept)).0

pub returns-then-not-all_show_room-clause-lanes : goal.returns-then-not-all_show_room-clause-lanes
returns-then-not-all_show_room-clause-lanes g c = (looked g (goal.at.returns-then-not-all_show_room-clause-lanes g c).After-all_show_room c.loop-count.kept (still c.loop-count.kept)).1

pub returns-in_err-reserve-clause-carried : goal.returns-in_err-reserve-clause-carried
returns-in_err-reserve-clause-carried g c = (looked g (goal.at.returns-in_err-reserve-clause-carried g c).After-all_show_room c.reserve.new.self c.reserve.ensures.unmoved).0

pub returns-in_err-reserve-clause-lanes : goal.returns-in_err-reserve-clause-lanes
returns-in_err-reserve-clause-lanes g c = (looked g (goal.at.returns-in_err-reserve-clause-lanes g c).After-all_show_room c.reserve.new.self c.reserve.ensures.unmoved).1

pub returns-in_err-reserve-clause-err : goal.returns-in_err-reserve-clause-err
returns-in_err-reserve-clause-err g c = on_err c.from_residual.result (c.loop-count.count, repeats_still c.loop-count.invariant.repeats c.reserve.ensures.unmoved)

pub returns-in_err-reserve-clause-granted : goal.returns-in_err-reserve-clause-granted
returns-in_err-reserve-clause-granted g c = λ all. absurd (false≢true (c.in_err-reserve.ensures.granted (length c.loop-count.kept.trace + 1) (all (length c.loop-count.kept.trace + 1)) (omega arith)))

pub issue_one-requires-clause-carried : goal.issue_one-requires-clause-carried
issue_one-requires-clause-carried g c = (looked g (goal.at.issue_one-requires-clause-carried g c).After-all_show_room c.reserve.new.self c.reserve.ensures.unmoved).0

pub returns-in_default-clause-carried : goal.returns-in_default-clause-carried
returns-in_default-clause-carried g c = (looked g (goal.at.returns-in_default-clause-carried g c).After-all_show_room c.reserve.new.self c.reserve.ensures.unmoved).0

pub returns-in_default-clause-lanes : goal.returns-in_default-clause-lanes
returns-in_default-clause-lanes g c = (looked g (goal.at.returns-in_default-clause-lanes g c).After-all_show_room c.reserve.new.self c.reserve.ensures.unmoved).1

pub returns-in_default-clause-ok : goal.returns-in_default-clause-ok
returns-in_default-clause-ok g c = repeats_still c.loop-count.invariant.repeats c.reserve.ensures.unmoved

pub loop-count-preserved : goal.loop-count-preserved
loop-count-preserved g c =
    let before = c.loop-count.invariant in
    let unmoved = c.reserve.ensures.unmoved in
    let issued = c.issue_one.ensures in
    record {
      events = omega (arith, before.events, ap length unmoved.trace, issued_length issued.repeats);
      limit = omega (arith, before.events, c.in_ok-reserve.ensures.ok, c.reserve.ensures.limit);
      carried = issued.carried;
      lanes = lanes_then c.args.lanes.now c.all_show_room.new.lanes c.issue_one.new.lanes (looked g (goal.at.loop-count-preserved g c).After-all_show_room c.reserve.new.self unmoved).1 issued.lanes;
      repeats = repeats_then (repeats_still before.repeats unmoved) issued.repeats;
    }
