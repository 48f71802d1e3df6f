use Rattle.std.proofs.Common.{◌∷◌, not, sym, subst, ap, ◌∙◌, rules}
use Rattle.uring_core.proofs.Common.{FitsApart, to_z-of_z, w32, world}
use Rattle.std.proofs.lemmas.Result.{IfErr-weaker}
use Rattle.uring_core.specs.declared.step.Step.TheVariants as step
use Rattle.uring_core.specs.declared.answer.Answer.TheVariants as answer
use Rattle.uring_core.proofs.RecordedAnswers.{ended_since, idle_refused_apart}
use Rattle.uring_core.proofs.cores.Core.follow_finish.Goals as goal

pub returns-in-Ended-clause-ok : goal.returns-in-Ended-clause-ok
returns-in-Ended-clause-ok c = λ h f.
    let ends = simp (to_z-of_z w32 c.in-Ended.res (search rules)) at (c.finish.ensures.outcome h f) in
    subst (λ a. FitsApart c.finish.new.self ((step.Finish c.args.number, a) ∷ h))
    (ended_since (world c.args.self.now.setup h) c.args.number c.running_op.result (answer.Ended c.in-Ended.res c.in-Ended.bytes) c.finish.result
    (c.running_op.ensures.value h f) (c.is_none.ensures ∙ ap not c.if-is_none.false) ends ∙ sym c.in-Ended.is)
    (c.finish.ensures.fits h f)

pub returns-then-is_none-clause-refused : goal.returns-then-is_none-clause-refused
returns-then-is_none-clause-refused c =
    IfErr-weaker c.compared.result _ _ (λ refusal told h f.
    idle_refused_apart (world c.args.self.now.setup h) c.args.number c.running_op.result c.args.given refusal (c.running_op.ensures.value h f)
    (c.is_none.ensures ∙ ap not c.if-is_none.true) told.0 told.1) c.compared.ensures.err

pub returns-in_default-clause-ok : goal.returns-in_default-clause-ok
returns-in_default-clause-ok c = tt
