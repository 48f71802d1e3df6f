use Rattle.std.proofs.Common.{◌≡◌, ◌∷◌, refl, sym, ap, ◌∙◌, to_z, of_z, rules}
use Rattle.std.specs.Int.{w32}
use Rattle.uring_machine.proofs.Common.{Outcome, after, both_ways}
use Rattle.std.proofs.lemmas.Int.{to_z-of_z}
use Rattle.uring_core.specs.declared.step.Step.TheVariants as step
use Rattle.uring_machine.proofs.RecordedEnds.{followed_end, followed_failure, runs_so, growth_wrong, growth_called, growth_failed, growth_bytes, kept_fits, ended_alike}
use Rattle.uring_machine.proofs.machine.Machine.follow_growth.Goals as goal
use Rattle.uring_files.proofs.OperationCases.{failed}

pub invariant_of-self : goal.invariant_of-self
invariant_of-self g c =
    let h = c.self.invariant.0 in
    let fits = c.self.invariant.1 in
    let running = rw (← c.self.view_is) at c.requires.running in
    let long = rw (← c.self.view_is) at c.requires.lengthens in (
      (step.Finish c.args.number, c.args.given) ∷ h,
      followed_failure c.self.inside.core c.finish.new.self c.self.inside.files c.args.number c.args.op.now c.finish.result c.args.given h c.finish.ensures.setup fits (running h fits) long
          (c.finish.ensures.fits h fits.core) (c.finish.ensures.outcome h fits.core) (c.same_answer.ensures.0 c.if-same_answer.true ∙ c.ended.ensures),
    )

pub returns-then-same_answer-clause-ok : goal.returns-then-same_answer-clause-ok
returns-then-same_answer-clause-ok g c =
    let running = rw (← c.self.view_is) at c.requires.running in
    let long = rw (← c.self.view_is) at c.requires.lengthens in
    rw (← c.self.view_is)
    (λ h fits.
    followed_failure c.self.inside.core c.finish.new.self c.self.inside.files c.args.number c.args.op.now c.finish.result c.args.given h c.finish.ensures.setup fits (running h fits) long
    (c.finish.ensures.fits h fits.core) (c.finish.ensures.outcome h fits.core) (c.same_answer.ensures.0 c.if-same_answer.true ∙ c.ended.ensures))

pub returns-then-not-same_answer-clause-refused : goal.returns-then-not-same_answer-clause-refused
returns-then-not-same_answer-clause-refused g c =
    let success = simp (to_z-of_z w32 c.written_length-length.result (search rules)) at c.ended-2.ensures in
    rw (to_z-of_z w32 c.written_length-length.result (search rules)) (λ h fits.
    growth_wrong _ h c.args.number c.args.op.now c.written_length-length.result c.args.given (runs_so _ h c.args.number c.args.op.now fits (c.requires.running h fits)) c.requires.lengthens
    (c.written_length-length.ensures _ c.requires.lengthens)
    (λ e. both_ways c.same_answer.result c.if-same_answer.false (c.same_answer.ensures.1 (e ∙ sym c.ended.ensures)))
    (λ e. both_ways c.same_answer-2.result c.if-not-same_answer.true (c.same_answer-2.ensures.1 (e ∙ sym success))))

pub returns-then-outcome-length-clause-refused : goal.returns-then-outcome-length-clause-refused
returns-then-outcome-length-clause-refused g c =
    let success = simp (to_z-of_z w32 c.written_length-length.result (search rules)) at c.ended-2.ensures in
    λ h fits.
    growth_called _ h c.args.number c.args.op.now c.written_length-length.result c.args.given (runs_so _ h c.args.number c.args.op.now fits (c.requires.running h fits)) c.requires.lengthens
    (c.written_length-length.ensures _ c.requires.lengthens) (c.same_answer-2.ensures.0 c.if-not-same_answer.false ∙ success)

pub returns-then-outcome-length-clause-resumed : goal.returns-then-outcome-length-clause-resumed
returns-then-outcome-length-clause-resumed g c =
    let long = rw (← c.self.view_is) at c.requires.lengthens in
    rw (← c.self.view_is)
    (λ h fits.
    kept_fits c.self.inside.core c.self.inside.core c.self.inside.files c.apply_in-outcome.new.self h refl
    (c.apply_in-outcome.ensures.files ∙ ap (λ res. after c.self.inside.files c.args.op.now res)
    (growth_failed c.self.inside.files c.args.op.now c.written_length-length.result c.apply_in-outcome.result (c.written_length-length.ensures _ long) c.apply_in-outcome.ensures.outcome (λ e. c.if-outcome-length.true (ap (of_z w32) e)))
    ∙ failed c.self.inside.files c.args.op.now 11) fits fits.core)

pub returns-then-outcome-length-clause-no_memory : goal.returns-then-outcome-length-clause-no_memory
returns-then-outcome-length-clause-no_memory g c = λ e h fits. sym (runs_so _ h c.args.number c.args.op.now fits (c.requires.running h fits)).is_same ∙ c.requires.lengthens

pub invariant_of-self-2 : goal.invariant_of-self-2
invariant_of-self-2 g c =
    let success = simp (to_z-of_z w32 c.written_length-length.result (search rules)) at c.ended-2.ensures in
    let h = c.self.invariant.0 in
    let fits = c.self.invariant.1 in
    let running = rw (← c.self.view_is) at c.requires.running in
    let long = rw (← c.self.view_is) at c.requires.lengthens in
    let length : c.apply_in-outcome.result.res ≡ c.written_length-length.result = sym (to_z-of_z w32 c.apply_in-outcome.result.res (search rules)) ∙ ap (to_z w32) c.if-outcome-length.false ∙ to_z-of_z w32 c.written_length-length.result (search rules) in
    let bytes = growth_bytes c.self.inside.files c.args.op.now c.written_length-length.result c.apply_in-outcome.result (c.written_length-length.ensures _ long) c.apply_in-outcome.ensures.outcome in (
      (step.Finish c.args.number, c.args.given) ∷ h,
      followed_end c.self.inside.core c.finish-2.new.self c.self.inside.files c.args.number c.args.op.now c.apply_in-outcome.result c.apply_in-outcome.new.self c.finish-2.result c.args.given h c.finish-2.ensures.setup fits
          (running h fits) c.apply_in-outcome.ensures.outcome c.apply_in-outcome.ensures.files (c.finish-2.ensures.fits h fits.core) (c.finish-2.ensures.outcome h fits.core)
          (c.same_answer-2.ensures.0 c.if-not-same_answer.false ∙ success ∙ sym (ended_alike _ _ _ _ length bytes)),
    )

pub returns-clause-ok : goal.returns-clause-ok
returns-clause-ok g c =
    let success = simp (to_z-of_z w32 c.written_length-length.result (search rules)) at c.ended-2.ensures in
    let running = rw (← c.self.view_is) at c.requires.running in
    let long = rw (← c.self.view_is) at c.requires.lengthens in
    let length : c.apply_in-outcome.result.res ≡ c.written_length-length.result = sym (to_z-of_z w32 c.apply_in-outcome.result.res (search rules)) ∙ ap (to_z w32) c.if-outcome-length.false ∙ to_z-of_z w32 c.written_length-length.result (search rules) in
    let bytes = growth_bytes c.self.inside.files c.args.op.now c.written_length-length.result c.apply_in-outcome.result (c.written_length-length.ensures _ long) c.apply_in-outcome.ensures.outcome in
    rw (← c.self.view_is)
    (λ h fits.
    followed_end c.self.inside.core c.finish-2.new.self c.self.inside.files c.args.number c.args.op.now c.apply_in-outcome.result c.apply_in-outcome.new.self c.finish-2.result c.args.given h c.finish-2.ensures.setup fits
    (running h fits) c.apply_in-outcome.ensures.outcome c.apply_in-outcome.ensures.files (c.finish-2.ensures.fits h fits.core) (c.finish-2.ensures.outcome h fits.core)
    (c.same_answer-2.ensures.0 c.if-not-same_answer.false ∙ success ∙ sym (ended_alike _ _ _ _ length bytes)))

pub returns-then-outcome-length-clause-granted : goal.returns-then-outcome-length-clause-granted
returns-then-outcome-length-clause-granted g c = λ h n fits grants few e.
    let long = rw (← c.self.view_is) at c.requires.lengthens in
    c.if-outcome-length.true (ap (λ (o : Outcome). of_z w32 o.res) (c.apply_in-outcome.ensures.granted n grants few ∙ c.written_length-length.ensures _ long))

pub invariant_of-self-then-outcome-length : goal.invariant_of-self-then-outcome-length
invariant_of-self-then-outcome-length g c =
    let long = rw (← c.self.view_is) at c.requires.lengthens in (
      c.self.invariant.0,
      kept_fits c.self.inside.core c.self.inside.core c.self.inside.files c.apply_in-outcome.new.self c.self.invariant.0 refl
          (c.apply_in-outcome.ensures.files ∙ ap (λ res. after c.self.inside.files c.args.op.now res)
          (growth_failed c.self.inside.files c.args.op.now c.written_length-length.result c.apply_in-outcome.result (c.written_length-length.ensures _ long) c.apply_in-outcome.ensures.outcome (λ e. c.if-outcome-length.true (ap (of_z w32) e)))
          ∙ failed c.self.inside.files c.args.op.now 11) c.self.invariant.1 c.self.invariant.1.core,
    )
