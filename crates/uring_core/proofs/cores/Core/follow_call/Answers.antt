use Rattle.std.proofs.Common.{refl}
use Rattle.std.proofs.lemmas.Bool.{both_ways}
use Rattle.uring_core.specs.declared.step.Step.TheVariants as step
use Rattle.uring_core.proofs.RecordedAnswers.{again_made_nothing, followed, wrong_call, call_made}
use Rattle.uring_core.proofs.WholeCalls.{as_called}
use Rattle.uring_core.proofs.cores.Core.follow_call.Goals as goal

pub returns-in-Again-clause-resumed : goal.returns-in-Again-clause-resumed
returns-in-Again-clause-resumed g c = λ h f. again_made_nothing c.step_in.new.self c.args.count c.step_in.result h c.in-Again.is (c.step_in.ensures.fits h f)

pub returns-then-same_answer-clause-no_memory : goal.returns-then-same_answer-clause-no_memory
returns-then-same_answer-clause-no_memory g c = λ e. absurd (followed _ _ _ refl e)

pub returns-then-not-same_answer-clause-refused : goal.returns-then-not-same_answer-clause-refused
returns-then-not-same_answer-clause-refused g c = λ h f.
    wrong_call _ c.args.length c.args.given (c.requires.opens h f) c.requires.some
    (λ e. both_ways c.same_answer-2.result c.if-not-same_answer.true (c.same_answer-2.ensures.1 e))
    (λ e. both_ways c.same_answer.result c.if-same_answer.false (c.same_answer.ensures.1 e))

pub returns-then-not-same_answer-clause-resumed : goal.returns-then-not-same_answer-clause-resumed
returns-then-not-same_answer-clause-resumed g c = λ h f. f

pub returns-then-same_answer-clause-granted : goal.returns-then-same_answer-clause-granted
returns-then-same_answer-clause-granted g c = λ h n fits granted enough e. followed _ _ _ refl e

pub returns-in-Again-clause-no_memory : goal.returns-in-Again-clause-no_memory
returns-in-Again-clause-no_memory g c = λ e h f. c.step_in.ensures.again h f c.in-Again.is

pub returns-in_default-clause-ok : goal.returns-in_default-clause-ok
returns-in_default-clause-ok g c = λ h f.
    let given = c.same_answer-2.ensures.0 c.if-not-same_answer.false in
    as_called c.step_in.new.self c.args.self.now.setup (step.Begin c.args.count) c.step_in.result c.args.given h c.step_in.ensures.setup (call_made _ _ _ _ (c.requires.opens h f) given c.in_default.not-Again) (c.step_in.ensures.fits h f)
