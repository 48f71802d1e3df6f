use Rattle.std.proofs.Common.{◌≤◌, ap, subst, sym, ◌∙◌}
use Rattle.uring_threads.proofs.Common.{Kernel, LeavesCompletions, LeavesItems, Sizes, false≢true}
use Rattle.uring_threads.proofs.Reporting.{TellsEnds, tells_ends}
use Rattle.uring_threads.proofs.SameEnds.{lanes_to_settle, carried_to_settle}
use Rattle.uring_threads.proofs.settle_ends.settle_in.Given.{Over}
use Rattle.uring_threads.proofs.settle_ends.settle_in.Goals.{After-new}
use Rattle.uring_threads.proofs.settle_ends.settle_in.Goals as goal

pub new-requires-clause-lanes : goal.new-requires-clause-lanes
new-requires-clause-lanes g c =
    lanes_to_settle c.args.app c.args.kernel c.make_room.new.self c.args.workers.items c.kernel.inside.kept c.kernel.inside.lanes.items c.requires c.in-Ok.ensures.same c.is_right.ensures.hands (ap (λ (k : Kernel). k.kept) c.kernel.view_is) (ap (λ (k : Kernel). k.lanes) c.kernel.view_is)

pub new-requires-clause-carried : goal.new-requires-clause-carried
new-requires-clause-carried g c =
    carried_to_settle c.make_room.new.self c.kernel.inside.kept c.kernel.inside.lanes.items c.is_right.ensures.hands (ap (λ (k : Kernel). k.kept) c.kernel.view_is) (ap (λ (k : Kernel). k.lanes) c.kernel.view_is)

told : (g : Over) (c : After-new g)
    → TellsEnds c.args.app c.args.kernel c.args.workers.items c.new.result
told g c =
    let rests = c.in-Ok-settle_in.rests in
    let left = c.in-Ok-settle_in.ensures in
    let reported = c.new.ensures in
    tells_ends c.args.app c.args.kernel c.make_room.new.self c.args.workers.items c.kernel.inside.kept c.kernel.inside.lanes.items rests.unsent.items rests.undelivered.items c.new.result
    c.requires c.in-Ok.ensures.same c.is_right.ensures.hands (ap (λ (k : Kernel). k.kept) c.kernel.view_is) (ap (λ (k : Kernel). k.lanes) c.kernel.view_is)
    (subst (λ (k : Kernel). LeavesItems c.args.app.submitted k.pulled rests.unsent.items) c.kernel.view_is left.items) (subst (λ (k : Kernel). LeavesCompletions k.reaped c.args.app.received rests.undelivered.items) c.kernel.view_is left.completions)
    left.submitted reported.setup reported.trace reported.running reported.rests

pub returns-in-Ok-settle_in-clause-running : goal.returns-in-Ok-settle_in-clause-running
returns-in-Ok-settle_in-clause-running g c = (told g (goal.at.returns-in-Ok-settle_in-clause-running g c).After-new).running

pub returns-in-Ok-settle_in-clause-items : goal.returns-in-Ok-settle_in-clause-items
returns-in-Ok-settle_in-clause-items g c = (told g (goal.at.returns-in-Ok-settle_in-clause-items g c).After-new).items

pub returns-in-Ok-settle_in-clause-calls : goal.returns-in-Ok-settle_in-clause-calls
returns-in-Ok-settle_in-clause-calls g c = (told g (goal.at.returns-in-Ok-settle_in-clause-calls g c).After-new).calls

pub returns-in-Ok-settle_in-clause-once : goal.returns-in-Ok-settle_in-clause-once
returns-in-Ok-settle_in-clause-once g c = (told g (goal.at.returns-in-Ok-settle_in-clause-once g c).After-new).once

pub returns-in-Ok-settle_in-clause-closed : goal.returns-in-Ok-settle_in-clause-closed
returns-in-Ok-settle_in-clause-closed g c = (told g (goal.at.returns-in-Ok-settle_in-clause-closed g c).After-new).closed

pub returns-in-Ok-settle_in-clause-reaped : goal.returns-in-Ok-settle_in-clause-reaped
returns-in-Ok-settle_in-clause-reaped g c = (told g (goal.at.returns-in-Ok-settle_in-clause-reaped g c).After-new).reaped

pub returns-in_default-clause-granted : goal.returns-in_default-clause-granted
returns-in_default-clause-granted g c = λ n grants sq cq events waiting. absurd (false≢true (c.in_default.ensures.granted n grants events waiting))

pub returns-in-Err-clause-granted : goal.returns-in-Err-clause-granted
returns-in-Err-clause-granted g c = λ n grants sq cq events waiting.
    let sizes = ap (λ (k : Kernel). k.sizes) c.kernel.view_is ∙ ap (λ (k : Kernel). k.sizes) c.in-Ok.ensures.same.others in
    absurd (false≢true (c.in-Err.ensures.granted n grants (subst (λ (s : Sizes). s.sq ≤ n) (sym sizes) sq) (subst (λ (s : Sizes). s.cq ≤ n) c.requires.sizes cq)))
