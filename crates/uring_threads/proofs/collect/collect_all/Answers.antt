use Rattle.std.proofs.Common.{◌≡◌, ◌+◌, ◌<◌, rules, length, get_or, refl, subst, arith}
use Rattle.uring_threads.proofs.Common.{AreTakenIn, IfOk-from_err, false≢true, results_received}
use Rattle.uring_threads.proofs.Collecting.{on_err, collects_at, collects_nothing, few_in_all, seen_at, seen_in_all}
use Rattle.uring_threads.proofs.collect.collect_all.Goals as goal

pub loop-place-init : goal.loop-place-init
loop-place-init g c = record {
  collected = collects_nothing c.args.lanes.now c.args.kept.now c.requires.carried;
  seen = λ k low. absurd (omega (arith, low));
}

pub collect-requires-clause-taken : goal.collect-requires-clause-taken
collect-requires-clause-taken g c =
    let p = c.loop-place.invariant.collected in
    let low : c.loop-place.place < length c.loop-place.lanes = omega (arith, c.loop-place-test.true, p.same.many) in
    subst (λ n. AreTakenIn c.loop-place.kept n c.loop-place.place (results_received (get_or c.loop-place.lanes c.loop-place.place c.index-lanes-place.result))) p.same.many (p.carried c.loop-place.place c.index-lanes-place.result low).results

pub loop-place-preserved : goal.loop-place-preserved
loop-place-preserved g c =
    let i = c.loop-place.invariant in
    let low : c.loop-place.place < length c.loop-place.lanes = omega (arith, c.loop-place-test.true, i.collected.same.many) in
    let p = c.in_ok-count.ensures.ok in
    record {
      collected = collects_at c.collect.new.lanes c.index-lanes-place.result i.collected low p.collected p.most c.collect.ensures.lanes c.collect.ensures.taken;
      seen = seen_at c.collect.new.lanes i.collected low p i.seen;
    }

pub returns : goal.returns
returns g c =
    let i = c.loop-place.invariant in
    let end : c.loop-place.place ≡ length c.args.lanes.now = search (rules, arith) in
    record { carried = i.collected.carried; lanes = i.collected.same; few = few_in_all i.collected; seen = seen_in_all c.args.kept.now c.loop-place.kept i.collected.same end i.seen; ok = i.collected.repeats; err = tt; granted = λ all. refl }

pub returns-in_err-count : goal.returns-in_err-count
returns-in_err-count g c =
    let i = c.loop-place.invariant in
    let low : c.loop-place.place < length c.loop-place.lanes = omega (arith, c.loop-place-test.true, i.collected.same.many) in
    let some = c.in_err-count.ensures.err in
    let p = collects_at c.collect.new.lanes c.index-lanes-place.result i.collected low some.2 some.1 c.collect.ensures.lanes c.collect.ensures.taken in
    let r = c.from_residual.result in
    let err = c.from_residual.ensures.0 in
    record { carried = p.carried; lanes = p.same; few = few_in_all p; seen = IfOk-from_err r _ err; ok = IfOk-from_err r _ err; err = on_err r (c.loop-place.count + some.0, p.repeats); granted = λ all. absurd (false≢true (c.in_err-count.ensures.granted all)) }
