use Rattle.std.proofs.Common.{ap, arith, ◌∙◌}
use Rattle.uring_machine.proofs.Common.{Err, take_all}
use Rattle.uring_machine.proofs.FirstWrong.{history_next, stops, few_before, goes_on, first_wrong_apart_at}
use Rattle.uring_machine.proofs.checks.first_wrong_apart.Goals as goal

pub returns-in-Err-clause-found : goal.returns-in-Err-clause-found
returns-in-Err-clause-found g c =
    stops c.in-Err.refusal c.loop-place.place c.stopped.result _ _ c.stopped.ensures.wrong c.stopped.ensures.no_memory
    (λ w is.
    first_wrong_apart_at c.args.core.now.setup c.loop-place.core.setup c.args.events.now c.loop-place.place c.index-events-place.result c.in-Err.refusal w c.loop-place.invariant.setup (omega arith) c.index-events-place.is
    c.loop-place.invariant.fits.lawful (c.in-Err.ensures.refused _ c.loop-place.invariant.fits) is)

pub returns-in-Err-clause-granted : goal.returns-in-Err-clause-granted
returns-in-Err-clause-granted g c = λ n grants few.
    goes_on c.in-Err.refusal c.loop-place.place c.stopped.result c.stopped.ensures.wrong
    (λ none. c.in-Err.ensures.by_steps _ n c.loop-place.invariant.fits grants (few_before c.args.core.now.setup c.loop-place.core.setup c.args.events.now c.loop-place.place n c.loop-place.invariant.setup c.loop-place-test.true few) (ap (λ r. Err r) none))

pub returns-clause-found : goal.returns-clause-found
returns-clause-found g c =
    rw (take_all c.loop-place.place c.args.events.now c.loop-place-test.false, c.loop-place.invariant.setup) at c.loop-place.invariant.fits.lawful

pub loop-place-preserved : goal.loop-place-preserved
loop-place-preserved g c = record {
  setup = c.follow_in.ensures.setup ∙ c.loop-place.invariant.setup;
  fits = rw (history_next c.args.events.now c.loop-place.place c.index-events-place.result c.loop-place-test.true c.index-events-place.is) (c.in_default.ensures.ok _ c.loop-place.invariant.fits);
}
