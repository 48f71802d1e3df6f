use Rattle.std.proofs.Common.{take, subst, arith}
use Rattle.uring_crash_outcomes.proofs.Common.{HasMade, entries_of, take_all}
use Rattle.uring_crash_outcomes.proofs.Trying.{made_on, stopped_on, made_all}
use Rattle.uring_crash_outcomes.proofs.trial.Trial.replay.Goals as goal

pub make-requires : goal.make-requires
make-requires g c =
    let h = c.loop-next.invariant c.requires.0 c.requires.1.0 c.requires.1.1 in
    record { moment = h.last; at = h.at }

pub loop-next-preserved : goal.loop-next-preserved
loop-next-preserved g c = λ unit g first.
    made_on unit g (entries_of c.args.calls.now) c.args.path.now c.loop-next.next-index _ c.make.new.self.run c.make.new.self.logs.items c.in_ok-make.field-0 (omega arith) c.if-not-branch.false (c.in_ok-make.ensures.tried unit g (take c.loop-next.next-index c.args.path.now) (c.loop-next.invariant unit g first))

pub returns-then-not-branch-clause-tried : goal.returns-then-not-branch-clause-tried
returns-then-not-branch-clause-tried g c = λ unit g first.
    stopped_on unit g (entries_of c.args.calls.now) c.args.path.now c.loop-next.next-index _ c.make.new.self.run c.make.new.self.logs.items c.in_ok-make.field-0 (omega arith) c.if-not-branch.true (c.in_ok-make.ensures.tried unit g (take c.loop-next.next-index c.args.path.now) (c.loop-next.invariant unit g first))

pub returns-clause-tried : goal.returns-clause-tried
returns-clause-tried g c = λ unit g first.
    made_all unit g (entries_of c.args.calls.now) c.args.path.now c.loop-next.self.run c.loop-next.self.logs.items
    (subst (λ ms. HasMade unit g (entries_of c.args.calls.now) ms c.loop-next.self.run c.loop-next.self.logs.items) (take_all c.loop-next.next-index c.args.path.now (omega arith)) (c.loop-next.invariant unit g first))
