use Rattle.std.proofs.Common.{◌≡◌, true, false, arith, rules}
use Rattle.uring_outcomes.proofs.Common.{entries_of, not-false, not-true}
use Rattle.uring_outcomes.proofs.Replaying.{stands_on_at, led_on_at, led_nowhere_at}
use Rattle.uring_outcomes.proofs.run.Run.replay.Goals as goal

pub loop-next-preserved : goal.loop-next-preserved
loop-next-preserved g c =
    let calls = entries_of c.args.calls.now in
    let made : c.in_ok-make.field-0 ≡ true = search (rules, not-false) in record {
      stands = stands_on_at calls c.loop-next.self c.make.new.self c.args.path.now c.loop-next.next-index _ c.in_ok-make.field-0 c.loop-next.invariant.stands made c.in_ok-make.ensures.made;
      led = λ m at. led_on_at calls m c.args.path.now c.loop-next.next-index _ c.loop-next.self c.make.new.self c.in_ok-make.field-0 (omega arith) (c.loop-next.invariant.led m at) made c.in_ok-make.ensures.made;
    }

pub returns-then-not-branch-clause-made : goal.returns-then-not-branch-clause-made
returns-then-not-branch-clause-made g c = λ m at.
    let made : c.in_ok-make.field-0 ≡ false = search (rules, not-true) in
    led_nowhere_at (entries_of c.args.calls.now) m c.args.path.now c.loop-next.next-index _ c.loop-next.self c.make.new.self c.in_ok-make.field-0 (omega arith) (c.loop-next.invariant.led m at) made c.in_ok-make.ensures.made
