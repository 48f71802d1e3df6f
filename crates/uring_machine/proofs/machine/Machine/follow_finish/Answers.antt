use Rattle.std.proofs.Common.{◌≡◌, ◌∷◌, false, Some, sym, subst, ◌∙◌}
use Rattle.uring_machine.proofs.Common.{Fits, History, Refusal, is_lengthening, operation_running, resumed, world}
use Rattle.std.proofs.lemmas.Result.{IfErr-weaker, on_ok_weaker}
use Rattle.uring_core.specs.declared.step.Step.TheVariants as step
use Rattle.uring_machine.proofs.Fitting.{called_for}
use Rattle.uring_machine.proofs.RecordedEnds.{idle_refused, runs_so, end_refused}
use Rattle.uring_machine.proofs.machine.Machine.follow_finish.Goals as goal

pub returns-in_default-clause-refused : goal.returns-in_default-clause-refused
returns-in_default-clause-refused g c =
    rw (← c.self.view_is)
    (IfErr-weaker c.compared.result _ _ (λ refusal told h fits. idle_refused c.self.inside.core.setup (world c.self.inside.core.setup h) c.args.number c.args.given refusal (sym c.in_default.is ∙ c.running_op.ensures.value h fits.core) told.0 told.1) c.compared.ensures.err)

pub returns-else-lengthens-clause-ok : goal.returns-else-lengthens-clause-ok
returns-else-lengthens-clause-ok g c =
    on_ok_weaker c.compared-else-lengthens.result (λ same h fits. subst (λ a. Fits c.finish_in.new.self ((step.Finish c.args.number, a) ∷ h)) (sym same) (c.finish_in.ensures.fits h fits)) c.compared-else-lengthens.ensures.ok

pub returns-else-lengthens-clause-refused : goal.returns-else-lengthens-clause-refused
returns-else-lengthens-clause-refused g c =
    let running : (h : History) → Fits c.args.self.now h → Some c.in-Some.op ≡ operation_running (world c.args.self.now.core.setup h).requests c.args.number =
    rw (← c.self.view_is) (λ h fits. sym c.in-Some.is ∙ c.running_op.ensures.value h fits.core) in
    let short : is_lengthening c.args.self.now.files c.in-Some.op ≡ false = rw (← c.self.view_is) (sym c.lengthens.ensures ∙ c.if-lengthens.false) in
    IfErr-weaker c.compared-else-lengthens.result _ _ (λ refusal told h fits.
    end_refused c.args.self.now h c.args.number c.in-Some.op c.finish_in.result c.args.given refusal (runs_so c.args.self.now h c.args.number c.in-Some.op fits (running h fits)) short
    (called_for c.args.self.now.core.setup c.finish_in.new.self.core c.finish_in.new.self.files (step.Finish c.args.number) c.finish_in.result h c.finish_in.ensures.setup (c.finish_in.ensures.fits h fits))
    told.0 told.1) c.compared-else-lengthens.ensures.err

pub returns-else-lengthens-clause-resumed : goal.returns-else-lengthens-clause-resumed
returns-else-lengthens-clause-resumed g c =
    IfErr-weaker c.compared-else-lengthens.result _ _ (λ refusal told h fits. subst (λ (r : Refusal). Fits c.finish_in.new.self (resumed (step.Finish c.args.number) r h)) (sym told.0) (c.finish_in.ensures.fits h fits))
    c.compared-else-lengthens.ensures.err
