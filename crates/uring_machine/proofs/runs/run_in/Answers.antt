use Rattle.std.proofs.Common.{ℕ, ◌<◌, ◌≡◌, ◌+◌, ◌++◌, List, [], ◌∷◌, length, take, get_or, sym, subst, ◌∙◌, arith}
use Rattle.uring_machine.proofs.Common.{Answer, AreUnrefused, Fits, History, IsUnrefused, Setup, Step, elements_for_step, follow_next, history_of, take_all, world, zip_next}
use Rattle.std.specs.List.{zip}
use Rattle.uring_machine.proofs.Settling.{unrefused_append}
use Rattle.uring_machine.proofs.runs.run_in.Goals as goal

-- one answer more that refuses no memory
unrefused_next : (g : Setup) (h : History) (steps : List Step) (i : ℕ) (answers pushed : List Answer) (s : Step) (a : Answer)
    → i < length steps → s ≡ get_or steps i s → length answers ≡ i → pushed ≡ answers ++ a ∷ []
    → AreUnrefused g h (zip (take i steps) answers)
    → IsUnrefused g (world g (history_of (zip (take i steps) answers) ++ h)) s a
    → AreUnrefused g h (zip (take (i + 1) steps) pushed)
unrefused_next g h steps i answers pushed s a lt at many more earlier last =
    subst (AreUnrefused g h) (sym (zip_next steps i answers pushed s a lt at many more))
    (unrefused_append g h (zip (take i steps) answers) ((s, a) ∷ []) earlier (last, tt))

pub loop-step-preserved : goal.loop-step-preserved
loop-step-preserved g c =
    let i = c.loop-step.invariant in
    record {
      answers = omega (arith, i.answers, c.push_reserved.ensures.len);
      room = omega (arith, i.room, c.push_reserved.ensures.capacity);
      setup = c.step_in.ensures.setup ∙ i.setup;
      unrefused = λ sure h f.
          let p = c.loop-step.machine.core in
          let before : History = history_of (zip (take c.loop-step.step-index c.args.steps.now) c.loop-step.answers.items) ++ h in
          let n : ℕ = elements_for_step p (world p.setup before) c.step-item.result in
          unrefused_next c.args.machine.now.core.setup h c.args.steps.now c.loop-step.step-index c.loop-step.answers.items c.push_reserved.new.self.items c.step-item.result c.step_in.result (omega arith) c.step-item.is (omega arith) c.push_reserved.ensures.items (i.unrefused sure h f)
          (subst (λ k. IsUnrefused k (world k before) c.step-item.result c.step_in.result) i.setup (c.step_in.ensures.granted before n (i.fits h f) (sure n) (omega arith)));
      fits = λ h f.
          rw (follow_next h c.args.steps.now c.loop-step.step-index c.loop-step.answers.items c.push_reserved.new.self.items c.step-item.result c.step_in.result (omega arith) c.step-item.is (omega arith) c.push_reserved.ensures.items)
          (c.step_in.ensures.fits _ (i.fits h f));
    }

pub returns-clause-fits : goal.returns-clause-fits
returns-clause-fits g c = λ h f.
    subst (λ (steps : List Step). Fits c.loop-step.machine (history_of (zip steps c.loop-step.answers.items) ++ h))
    (take_all c.loop-step.step-index c.args.steps.now c.loop-step-test.false) (c.loop-step.invariant.fits h f)

pub returns-clause-unrefused : goal.returns-clause-unrefused
returns-clause-unrefused g c = λ sure h f.
    subst (λ (steps : List Step). AreUnrefused c.args.machine.now.core.setup h (zip steps c.loop-step.answers.items))
    (take_all c.loop-step.step-index c.args.steps.now c.loop-step-test.false) (c.loop-step.invariant.unrefused sure h f)
