use Rattle.std.proofs.Common.{◌≡◌, rules}
use Rattle.uring_observed_text.proofs.Common.{IfOk-weaker, no_bytes}
use Rattle.uring_observed_text.proofs.WrittenSteps.{completed_full, completed_none, completed_whole}
use Rattle.uring_observed_text.proofs.written.written_completion.Goals as goal

pub returns-then-not-bare-clause-completed : goal.returns-then-not-bare-clause-completed
returns-then-not-bare-clause-completed g c =
    let full : c.args.completion.now.payload ≡ no_bytes → ⊥ = search rules in
    completed_full c.args.completion.now c.args.text.now full

pub returns-in-Some-clause-completed : goal.returns-in-Some-clause-completed
returns-in-Some-clause-completed g c =
    let none : c.args.completion.now.payload ≡ no_bytes = search rules in
    IfOk-weaker c.shown_if.result _ _
    (λ seen so. completed_whole c.args.completion.now c.in-Some.whole c.args.text.now seen none (rw c.in-Some.is at c.in_ok-whole.ensures.completed) so)
    c.shown_if.ensures.shown

pub returns-in-None-clause-completed : goal.returns-in-None-clause-completed
returns-in-None-clause-completed g c =
    completed_none c.args.completion.now c.args.text.now (rw c.in-None.is at c.in_ok-whole.ensures.completed)
