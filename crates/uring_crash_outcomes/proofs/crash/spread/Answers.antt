use Rattle.std.proofs.Common.{ℕ, map, Vec, Global, arith}
use Rattle.uring_crash_outcomes.proofs.Common.{Crash, with_file}
use Rattle.uring_crash_outcomes.proofs.Lists.{spread_more}
use Rattle.uring_crash_outcomes.proofs.crash.spread.Goals as goal

pub loop-crash-preserved : goal.loop-crash-preserved
loop-crash-preserved g c =
    spread_more (λ (d : Crash). map (with_file d) (map (λ (b : Vec ℕ Global). b.items) c.args.images.now)) c.args.crashes.now c.loop-crash.crash-index c.crash-item.result _ _ (omega arith) c.crash-item.is c.loop-crash.invariant c.in_ok-spread_one.ensures.wider
