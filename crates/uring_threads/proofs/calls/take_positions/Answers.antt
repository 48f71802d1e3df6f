use Rattle.std.proofs.Common.{◌≡◌, ◌+◌, ◌∷◌, drop, true, false, if◌then◌else◌, refl, ap, subst, ◌∙◌, arith}
use Rattle.uring_threads.proofs.Common.{Submission, calls_after, calls_left, ends_of, in_call, now, replicate_more, taken}
use Rattle.uring_threads.proofs.CallSteps.{all_taken, between_stands, ended_there, ends_as, gone_on, none_after, took_of}
use Rattle.uring_core.specs.declared.step.Step.TheVariants as step
use Rattle.uring_threads.proofs.TraceSteps.{grown_length, appends_one, appends_then}
use Rattle.uring_threads.proofs.calls.take_positions.Goals as goal

pub returns-then-is_ended-clause-world : goal.returns-then-is_ended-clause-world
returns-then-is_ended-clause-world c =
    let i = c.loop-done.invariant in
    let t = took_of c.args.kept.now c.loop-done.kept c.step_reserved-answer.new.self c.requires.in_call.0 c.args.count c.loop-done.done c.step_reserved-answer.result c.is_lawful.ensures.goes_on i.row.setup c.requires.in_call.1 c.requires.in_call.2 c.loop-done-test.true i.world c.step_reserved-answer.ensures.grows c.step_reserved-answer.ensures.called in
    let e = ends_as c.step_reserved-answer.new.self c.args.kept.now.setup c.setup-setup.result (now c.args.kept.now) c.args.count c.loop-done.done c.step_reserved-answer.result c.is_ended.result true c.setup-setup.ensures.value c.is_ended.ensures c.if-is_ended.true t in
    t.world ∙ ap (λ b. in_call (now c.args.kept.now) (if b then c.loop-done.done + 1 else c.args.count) (c.loop-done.done + 1)) e

pub returns-then-is_ended-clause-call : goal.returns-then-is_ended-clause-call
returns-then-is_ended-clause-call c =
    let i = c.loop-done.invariant in
    let t = took_of c.args.kept.now c.loop-done.kept c.step_reserved-answer.new.self c.requires.in_call.0 c.args.count c.loop-done.done c.step_reserved-answer.result c.is_lawful.ensures.goes_on i.row.setup c.requires.in_call.1 c.requires.in_call.2 c.loop-done-test.true i.world c.step_reserved-answer.ensures.grows c.step_reserved-answer.ensures.called in
    let e = ends_as c.step_reserved-answer.new.self c.args.kept.now.setup c.setup-setup.result (now c.args.kept.now) c.args.count c.loop-done.done c.step_reserved-answer.result c.is_ended.result true c.setup-setup.ensures.value c.is_ended.ensures c.if-is_ended.true t in
    ended_there c.args.kept.now.setup _ _ t.place c.loop-done.done _ t.next i.calls e

pub loop-done-preserved : goal.loop-done-preserved
loop-done-preserved c =
    let i = c.loop-done.invariant in
    let t = took_of c.args.kept.now c.loop-done.kept c.step_reserved-answer.new.self c.requires.in_call.0 c.args.count c.loop-done.done c.step_reserved-answer.result c.is_lawful.ensures.goes_on i.row.setup c.requires.in_call.1 c.requires.in_call.2 c.loop-done-test.true i.world c.step_reserved-answer.ensures.grows c.step_reserved-answer.ensures.called in
    let e = ends_as c.step_reserved-answer.new.self c.args.kept.now.setup c.setup-setup.result (now c.args.kept.now) c.args.count c.loop-done.done c.step_reserved-answer.result c.is_ended.result false c.setup-setup.ensures.value c.is_ended.ensures c.if-is_ended.false t in
    record {
      events = omega (arith, i.events, grown_length _ _ _ c.step_reserved-answer.ensures.grows);
      world = t.world ∙ ap (λ b. in_call (now c.args.kept.now) (if b then c.loop-done.done + 1 else c.args.count) (c.loop-done.done + 1)) e;
      calls = gone_on c.args.kept.now.setup _ _ t.place c.loop-done.done _ t.next i.calls e;
      row = rw (← (replicate_more c.loop-done.done step.Take)) (appends_then i.row (appends_one _ _ _ _ c.step_reserved-answer.ensures.grows refl));
    }

pub returns-clause-call : goal.returns-clause-call
returns-clause-call c =
    let i = c.loop-done.invariant in
    let l : Submission = (now c.args.kept.now).submission in
    let same : c.loop-done.done ≡ c.args.count = omega (arith, c.loop-done.auto.done-end, c.loop-done-test.false) in
    let stands = between_stands (now c.args.kept.now) c.requires.in_call.0 c.args.count 0 c.requires.in_call.2 c.requires.in_call.1 in
    let none = ap (λ n. drop (taken l + n) l.published) same ∙ none_after (now c.args.kept.now) c.args.count stands in
    subst (λ n. calls_left c.args.kept.now.setup l ≡ n ∷ calls_after (ends_of c.args.kept.now.setup (drop (taken l + n) l.published)) 0) same
    (all_taken c.args.kept.now.setup (drop (taken l + c.loop-done.done) l.published) c.loop-done.done (calls_left c.args.kept.now.setup l) (omega (arith, same, c.requires.some)) none i.calls)

pub returns-then-is_ended-clause-length : goal.returns-then-is_ended-clause-length
returns-then-is_ended-clause-length c = omega (arith, c.loop-done.invariant.events, grown_length _ _ _ c.step_reserved-answer.ensures.grows)
