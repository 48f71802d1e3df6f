use Rattle.std.proofs.Common.{◌≡◌, Bool, true, false, Some, None, if◌then◌else◌, refl, sym, ap, ap₂, ◌∙◌, of_z, to_z, rules, arith}
use Rattle.uring_outcomes.proofs.Common.{Op, Outcome, entry_of, false_from_ne_true, finished, is_finishable, is_running, max_len, moved, operation_of, result_of, to_z-of_z, w32}
use Rattle.uring_outcomes.specs.declared.move_of_calls.Move.TheVariants as move
use Rattle.uring_files.proofs.OperationCases.{result_granted}
use Rattle.uring_outcomes.proofs.Moving.{called_for, finishable_tells, not_made, runs_told}
use Rattle.uring_outcomes.proofs.RunSteps.{running_asks, running_told, finish_between, finishes}
use Rattle.uring_outcomes.proofs.run.Run.finish.Goals as goal

none_runs : (running : Bool) (op : Op) → None ≡ (if running then Some op else None) → running ≡ true → ⊥
none_runs true op none runs = cc
none_runs false op none runs = cc

pub unreachable-requires : goal.unreachable-requires
unreachable-requires g c =
    running_told c.requires.0 c.args.self.now c.args.number c.in-Some.op c.entry.result c.requires.1.moment c.requires.1.at (sym c.in-Some.is ∙ c.running_op.ensures _ c.requires.1.at.requests) (c.entry.ensures _ c.requires.1.at.requests) (sym c.in_default-entry.is)

pub apply_in-outcome-requires : goal.apply_in-outcome-requires
apply_in-outcome-requires g c =
    running_asks c.requires.0 c.args.self.now c.args.number c.in-Some.op c.requires.1.moment c.requires.1.at (sym c.in-Some.is ∙ c.running_op.ensures _ c.requires.1.at.requests)

pub returns-clause-made : goal.returns-clause-made
returns-clause-made g c = λ calls m at.
    finishes calls c.args.self.now _ m c.args.number c.in-Some.op c.in-Some-entry.entry c.apply_in-outcome.result c.finish.result at
    (sym c.in-Some.is ∙ c.running_op.ensures m.requests at.requests)
    (sym c.in-Some-entry.is ∙ c.entry.ensures m.requests at.requests)
    (called_for c.args.self.now.files c.in-Some.op c.apply_in-outcome.result c.apply_in-outcome.ensures.outcome (λ e. c.if-outcome.false (ap (of_z w32) e)))
    (c.finish.ensures.answer m.requests at.requests)
    (c.finish.ensures.shows m.requests at.requests)
    (finish_between c.finish.result _ _ c.finish.ensures.counts at.between)
    (let same = to_z-of_z w32 c.apply_in-outcome.result.res (search rules) in rw same at c.in_ok-post.ensures.posted) c.apply_in-outcome.ensures.files refl

pub returns-then-outcome-clause-granted : goal.returns-then-outcome-clause-granted
returns-then-outcome-clause-granted g c = λ all.
    let same = to_z-of_z w32 c.apply_in-outcome.result.res (search rules) in
    let called = c.apply_in-outcome.ensures.granted max_len (all max_len) (omega arith) in
    absurd (result_granted c.args.self.now.files c.in-Some.op (sym (ap (λ (o : Outcome). o.res) called) ∙ (sym same ∙ ap (to_z w32) c.if-outcome.true)))

pub returns-clause-called : goal.returns-clause-called
returns-clause-called g c = λ calls m at.
    let same = to_z-of_z w32 c.apply_in-outcome.result.res (search rules) in
    let called = called_for c.args.self.now.files c.in-Some.op c.apply_in-outcome.result c.apply_in-outcome.ensures.outcome (λ e. c.if-outcome.false (ap (of_z w32) e)) in
    let runs = runs_told m.requests c.args.number c.in-Some.op (sym c.in-Some.is ∙ c.running_op.ensures m.requests at.requests) in
    same ∙ ap (λ (o : Outcome). o.res) (called ∙ ap₂ result_of at.files runs.1)

pub returns-in_default-clause-made : goal.returns-in_default-clause-made
returns-in_default-clause-made g c = λ calls m at.
    let n = c.args.number in
    let none = sym c.in_default.is ∙ c.running_op.ensures m.requests at.requests in
    let idle = false_from_ne_true (is_finishable m.requests n) (λ can. none_runs (is_running m.requests n) (operation_of (entry_of m.requests n)) none (finishable_tells m.requests n can).1) in
    not_made _ (moved m (move.Finish n)) (ap (λ b. if b then Some (finished m n) else None) idle)
