use Rattle.std.proofs.Common.{refl, subst, length, arith, ◌+◌, ◌∙◌}
use Rattle.uring_threads.proofs.Common.{CanBeTaken, Grows, NextStays, false≢true, finish_of}
use Rattle.uring_threads.proofs.Collecting.{collects_first, collects_still, collects_then, first_known, none_stays, on_err, taken_in_more, takes_in}
use Rattle.uring_threads.proofs.SameLanes.{receives_then}
use Rattle.uring_threads.proofs.collect.collect.Given.{Over}
use Rattle.uring_threads.proofs.collect.collect.Goals as goal

-- the result that was looked at can be taken in, and it is the one that was popped
popped_can : (g : Over) (c : goal.After-finish g)
    → CanBeTaken c.reserve.new.self c.args.workers c.args.place c.pop_known-result.result.number
popped_can g c =
    subst (λ r. CanBeTaken c.reserve.new.self c.args.workers c.args.place r.number) (first_known c.peek_known.ensures c.pop_known-result.ensures.received.1) (c.if-not-is_at.ensures.0 refl)

-- and that was recorded
grows : (g : Over) (c : goal.After-finish g)
    → Grows c.reserve.new.self c.finish.new.self (finish_of c.pop_known-result.result)
grows g c = takes_in c.reserve.new.self c.finish.new.self c.pop_known-result.result c.finish.result (popped_can g c).runs c.finish.ensures.outcome c.finish.ensures.grows

pub returns-then-is_empty-clause-ok : goal.returns-then-is_empty-clause-ok
returns-then-is_empty-clause-ok g c = record { collected = c.loop-count.invariant.collected; most = omega arith; rest = λ few. none_stays c.loop-count.kept c.args.workers c.args.place _ (c.if-is_empty.ensures.value.0 refl) }

pub returns-then-not-is_at-clause-ok : goal.returns-then-not-is_at-clause-ok
returns-then-not-is_at-clause-ok g c = record { collected = collects_still c.loop-count.invariant.collected c.reserve.ensures.unmoved; most = omega arith; rest = λ few. subst (NextStays c.reserve.new.self c.args.workers c.args.place) c.peek_known.ensures.1 (λ can. absurd (false≢true (c.if-not-is_at.ensures.1 can))) }

pub returns-in_err-reserve-clause-err : goal.returns-in_err-reserve-clause-err
returns-in_err-reserve-clause-err g c =
    on_err c.from_residual.result (c.loop-count.count, omega arith, collects_still c.loop-count.invariant.collected c.reserve.ensures.unmoved)

pub returns-in_err-reserve-clause-granted : goal.returns-in_err-reserve-clause-granted
returns-in_err-reserve-clause-granted g c = λ all. absurd (false≢true (c.in_err-reserve.ensures.granted (length c.loop-count.kept.trace + 1) (all (length c.loop-count.kept.trace + 1)) (omega arith)))

pub loop-count-preserved : goal.loop-count-preserved
loop-count-preserved g c = record {
  taken = taken_in_more c.pop_known-result.result (popped_can g c) c.reserve.ensures.unmoved (grows g c) (c.is_empty.ensures.looked.1 ∙ c.loop-count.invariant.taken) c.pop_known-result.ensures.received.0;
  lanes = receives_then _ _ _ c.loop-count.invariant.lanes (record { jobs = refl; ring = grind arith });
  collected = collects_then (collects_still c.loop-count.invariant.collected c.reserve.ensures.unmoved) (collects_first c.pop_known-result.result (popped_can g c) (grows g c));
}
