use Rattle.std.proofs.Common.{◌∙◌, ap, sym, subst, arith}
use Rattle.uring_threads.proofs.Common.{CalledForApart, FitsApart, IsWithinLimits, Setup, elements_for, history_of, history_of_snoc, world}
use Rattle.uring_threads.proofs.kept.Kept.step_reserved_in.Goals as goal

pub invariant_of-self : goal.invariant_of-self
invariant_of-self g c =
    let before = c.self.inside.trace.items in
    let events = ap history_of c.push_reserved.ensures.items ∙ history_of_snoc before (c.args.step, c.step_in-answer.result) in (
      subst IsWithinLimits (sym c.step_in-answer.ensures.setup) c.self.invariant.0,
      subst (FitsApart c.step_in-answer.new.self) (sym events) (c.step_in-answer.ensures.fits (history_of before) c.self.invariant.1),
      ap (λ (g : Setup). g.stops) c.step_in-answer.ensures.setup ∙ c.self.invariant.2,
    )

pub returns : goal.returns
returns g c =
    record {
      grows = rw (← c.self.view_is) (record { trace = c.push_reserved.ensures.items; room = omega (arith, c.push_reserved.ensures.room); setup = c.step_in-answer.ensures.setup });
      called =
          let h = history_of c.self.inside.trace.items in
          rw (← c.self.view_is) (subst (λ (g : Setup). CalledForApart g (world g h) c.args.step c.step_in-answer.result) c.step_in-answer.ensures.setup (c.step_in-answer.ensures.fits h c.self.invariant.1).lawful.0);
      granted = λ all.
          let h = history_of c.self.inside.trace.items in
          c.step_in-answer.ensures.granted h _ c.self.invariant.1 (all (elements_for c.self.inside.core (world c.self.inside.core.setup h) c.args.step)) (omega arith);
    }
