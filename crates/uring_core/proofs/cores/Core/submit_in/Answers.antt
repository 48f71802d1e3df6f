use Rattle.std.proofs.Common.{ℕ, ◌≤◌, length, Err, sym, subst, ◌∙◌, arith}
use Rattle.uring_core.proofs.Common.{Answer, Core, FitsApart, IsMadeAsTold, IsShortFor, OrAgain, Setup, after_begin, after_published, after_takes, begin_answer, call_length, elements_for_call, world}
use Rattle.uring_core.specs.declared.cores.submit.NotSubmitted.TheVariants as refused
use Rattle.uring_core.specs.declared.step.Step.TheVariants as step
use Rattle.uring_core.specs.declared.answer.Answer.TheVariants as answer
use Rattle.uring_core.proofs.WholeCalls.{as_called, opened_called, short_for_more, more_elements, submission_keeps, memory_then, one_refusal, begin_refused, nothing_made}
use Rattle.uring_core.proofs.cores.Core.submit_in.Goals as goal

pub returns-in-Some-clause-again : goal.returns-in-Some-clause-again
returns-in-Some-clause-again g c = λ h f e. absurd (c.in-Some.ensures.before answer.Again (one_refusal _ _ e))

pub returns-in-Some-clause-granted : goal.returns-in-Some-clause-granted
returns-in-Some-clause-granted g c = λ h n f grants enough e. c.in-Some.ensures.before answer.Again (one_refusal _ _ e)

pub overflow_cast-count : goal.overflow_cast-count
overflow_cast-count g c = omega (arith, c.not_made.ensures.few c.in-None.is)

pub publish-requires : goal.publish-requires
publish-requires g c = omega (arith, c.not_made.ensures.few c.in-None.is)

pub returns-in_default : goal.returns-in_default
returns-in_default g c =
    let old = c.args.self.now in
    let n = length c.args.entries.now in
    record {
      setup = c.begin.ensures.setup ∙ c.publish.ensures.setup;
      fits = tt;
      refused = λ h f. c.begin.ensures.fits (after_published old.setup c.args.entries.now h) (c.publish.ensures.fits h f);
      not_made = λ h f. subst (λ o. IsMadeAsTold o (Err (refused.Begin c.begin.result))) (sym c.in-None.is ∙ c.not_made.ensures.value h f) tt;
      again = λ h f e.
          let before = after_published old.setup c.args.entries.now h in
          let length_is : ℕ = call_length (world c.publish.new.self.setup before).submission n in
          let short = c.begin.ensures.again before (c.publish.ensures.fits h f) (begin_refused c.begin.result answer.Again e) in
          short_for_more old length_is n (omega arith) (subst (λ (p : Core). IsShortFor p length_is) c.publish.ensures.others short);
      memory = memory_then old c.publish.new.self c.begin.new.self (submission_keeps old c.publish.new.self c.publish.ensures.others) c.begin.ensures.memory;
      granted = λ h m f grants enough e.
          let before = after_published old.setup c.args.entries.now h in
          let length_is : ℕ = call_length (world c.publish.new.self.setup before).submission n in
          let few = more_elements old length_is n m (omega arith) enough in
          c.begin.ensures.granted before m (c.publish.ensures.fits h f) grants (subst (λ (p : Core). elements_for_call p length_is ≤ m) (sym c.publish.ensures.others) few) (begin_refused c.begin.result answer.Again e);
    }

pub returns-clause-fits : goal.returns-clause-fits
returns-clause-fits g c = λ h f.
    let first = c.args.self.now.setup in
    let n = length c.args.entries.now in
    let before = after_published first c.args.entries.now h in
    let same = c.begin.ensures.setup ∙ c.publish.ensures.setup in
    let begun = as_called c.begin.new.self first (step.Begin n) c.begin.result (answer.Call (call_length (world first before).submission n)) before same
    (λ e. c.in-Call.is ∙ opened_called (world first before) n c.in-Call.field-0 (subst (λ (a : Answer). OrAgain (begin_answer (world first before) n) a) c.in-Call.is e))
    (c.begin.ensures.fits before (c.publish.ensures.fits h f)) in
    let taken = subst (λ (k : Setup). FitsApart c.take_all.new.self (after_takes k n (after_begin first n before))) same (c.take_all.ensures.fits (after_begin first n before) begun) in
    c.end.ensures.fits _ taken

pub returns-in-Some-clause-refused : goal.returns-in-Some-clause-refused
returns-in-Some-clause-refused g c = λ h. rw (nothing_made c.args.self.now.setup c.args.entries.now c.in-Some.refusal h c.in-Some.ensures.before) (λ f. f)
