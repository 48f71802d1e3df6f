use Rattle.std.proofs.Common.{◌≡◌, ◌<◌, Some, None, length, subst, sym, ap, ◌∙◌}
use Rattle.uring_threads.proofs.Common.{Grows, Setup, place_of}
use Rattle.uring_core.specs.declared.step.Step.TheVariants as step
use Rattle.uring_threads.proofs.Carrying.{IssuedAs, carried_run, carried_stays, ended_stays}
use Rattle.uring_threads.proofs.SameLanes.{lanes_sent}
use Rattle.uring_threads.proofs.Dealing.{dealt_by_file}
use Rattle.uring_threads.proofs.Issuing.{issue_cases, issued_repeats, started_op, started_runs}
use Rattle.uring_threads.proofs.issues.issue_one.Goals.{In-Ended}
use Rattle.uring_threads.proofs.issues.issue_one.Goals as goal

pub unreachable-requires-in_default : goal.unreachable-requires-in_default
unreachable-requires-in_default c =
    issue_cases c.args.kept.now c.args.number c.step_reserved.result c.requires.next c.step_reserved.ensures.called c.in_default.not-Run c.in_default.not-Ended

pub unreachable-requires : goal.unreachable-requires
unreachable-requires c =
    started_runs c.args.kept.now c.step_reserved.new.self c.args.number c.requires.next
    (subst (λ x. Grows c.args.kept.now c.step_reserved.new.self (step.Issue c.args.number, x)) c.in-Run.is c.step_reserved.ensures.grows)
    (sym c.running_op.ensures.value ∙ c.in_default-running_op.is)

ends : (c : In-Ended) → IssuedAs c.args.kept.now c.step_reserved.new.self c.args.number None
ends c = (c.step_reserved.result, c.step_reserved.ensures.grows, rw c.in-Ended.is tt)

pub returns-in-Some-clause-carried : goal.returns-in-Some-clause-carried
returns-in-Some-clause-carried c =
    let grows = subst (λ x. Grows c.args.kept.now c.step_reserved.new.self (step.Issue c.args.number, x)) c.in-Run.is c.step_reserved.ensures.grows in
    let runs : IssuedAs c.args.kept.now c.step_reserved.new.self c.args.number (Some c.in-Some.op) = (grows, started_op _ _ _ _ grows (sym c.in-Some.is ∙ c.running_op.ensures.value)) in
    let files : c.files.result ≡ c.args.kept.now.setup.files = c.files.ensures.value ∙ ap (λ (g : Setup). g.files) (c.setup.ensures.value ∙ c.step_reserved.ensures.grows.setup) in
    let at : c.place_of-place.result ≡ place_of (length c.args.lanes.now) c.args.kept.now.setup.files c.in-Some.op = c.place_of-place.ensures ∙ ap (λ n. place_of (length c.args.lanes.now) n c.in-Some.op) files in
    carried_run c.args.kept.now c.step_reserved.new.self c.args.number c.place_of-place.result c.in-Some.op c.args.lanes.now c.send.new.lanes runs c.requires.carried at
    (subst (λ p. p < length c.args.lanes.now) (sym at) ((dealt_by_file (length c.args.lanes.now) c.args.kept.now.setup.files c.requires.some).within c.in-Some.op))
    c.send.ensures.length c.send.ensures.here c.send.ensures.others

pub returns-in-Ended-clause-carried : goal.returns-in-Ended-clause-carried
returns-in-Ended-clause-carried c = carried_stays c.args.kept.now c.step_reserved.new.self c.args.lanes.now (ended_stays c.args.kept.now c.step_reserved.new.self c.args.number (ends c)) c.requires.carried

pub returns-in-Some-clause-repeats : goal.returns-in-Some-clause-repeats
returns-in-Some-clause-repeats c =
    let grows = subst (λ x. Grows c.args.kept.now c.step_reserved.new.self (step.Issue c.args.number, x)) c.in-Run.is c.step_reserved.ensures.grows in
    let runs : IssuedAs c.args.kept.now c.step_reserved.new.self c.args.number (Some c.in-Some.op) = (grows, started_op _ _ _ _ grows (sym c.in-Some.is ∙ c.running_op.ensures.value)) in
    issued_repeats c.args.kept.now c.step_reserved.new.self c.args.number (Some c.in-Some.op) runs

pub returns-in-Ended-clause-repeats : goal.returns-in-Ended-clause-repeats
returns-in-Ended-clause-repeats c = issued_repeats c.args.kept.now c.step_reserved.new.self c.args.number None (ends c)

pub returns-in-Some-clause-lanes : goal.returns-in-Some-clause-lanes
returns-in-Some-clause-lanes c = lanes_sent c.args.lanes.now c.send.new.lanes c.place_of-place.result _ c.send.ensures.length c.send.ensures.here c.send.ensures.others
