use Rattle.std.proofs.Common.{◌≡◌, ◌∷◌, refl, arith}
use Rattle.uring_core.proofs.Common.{Core, FitsApart, History, Setup, ShowsSubmission, Sq, Submission, end_told}
use Rattle.uring_rings.specs.SqAnswers as ring
use Rattle.uring_rings.specs.declared.answers.Taken.{Taken}
use Rattle.uring_rings.specs.declared.answers.EndAnswer.{EndAnswer}
use Rattle.uring_rings.specs.declared.answers.EndAnswer.TheVariants as ended_as
use Rattle.uring_core.specs.declared.step.Step.TheVariants as step
use Rattle.uring_core.proofs.CoreSteps.{core_after}
use Rattle.uring_core.proofs.CoreTakes.{held_accepted}
use Rattle.uring_core.proofs.CoreEnds.{accepts_held, end_goes}
use Rattle.uring_core.proofs.cores.Core.end.Goals as goal
use Rattle.uring_core.proofs.cores.Core.end.Goals.{in-Taken, in_default}

-- an end that was refused
refused_goes : (p : Core) (q : Sq) (r : EndAnswer) → ((t : Taken) → r ≡ ended_as.Taken t → ⊥)
    → ((g : Setup) (l : Submission) → ShowsSubmission g p.sq l → r ≡ ring.end_answer g l)
    → (r ≡ ended_as.NoCall → q ≡ p.sq) → (r ≡ ended_as.NotAll → q ≡ p.sq)
    → (h : History) → FitsApart p h → FitsApart (record p { sq = q }) ((step.End, end_told r) ∷ h)
refused_goes p q r other answered same same' h f = grind (arith, (answered p.setup _ f.shows.submission))

pub accept_call-requires : goal.accept_call-requires
accept_call-requires c =
    rw c.deref.ensures.value (held_accepted _ c.self.invariant.1.1 c.self.invariant.1.2)

pub invariant_of-self : goal.invariant_of-self
invariant_of-self c =
    rw (c.clear.ensures.items, c.clear.ensures.capacity) (
      c.self.invariant.0,
      core_after _ _ _ refl (end_goes _ c.end-answer.new.self c.accept_call.new.self c.in-Taken.field-0 c.in-Taken.ensures.answer c.in-Taken.ensures.shows
          (accepts_held _ c.accept_call.new.self c.deref.result.now c.deref.ensures.value c.accept_call.ensures.shows c.accept_call.ensures.counts c.accept_call.ensures.between)) c.self.invariant.1,
    )

pub invariant_of-self-in_default : goal.invariant_of-self-in_default
invariant_of-self-in_default c = (c.self.invariant.0, core_after _ _ _ refl (refused_goes _ c.end-answer.new.self c.end-answer.result c.in_default.not-Taken c.end-answer.ensures.answer c.end-answer.ensures.no_call c.end-answer.ensures.not_all) c.self.invariant.1)

pub returns-clause-fits : goal.returns-clause-fits
returns-clause-fits c =
    elim c.match-answer.branch [
      | in-Taken w ↦ rw (c.from.ensures, w.self-is, w.in-Taken.is, ← c.self.view_is) (simp w.clear.ensures.items (end_goes _ c.end-answer.new.self w.accept_call.new.self w.in-Taken.field-0 w.in-Taken.ensures.answer w.in-Taken.ensures.shows
          (accepts_held _ w.accept_call.new.self w.deref.result.now w.deref.ensures.value w.accept_call.ensures.shows w.accept_call.ensures.counts w.accept_call.ensures.between)))
      | in_default w ↦ rw (c.from.ensures, w.self-is, ← c.self.view_is) (refused_goes _ c.end-answer.new.self c.end-answer.result w.in_default.not-Taken c.end-answer.ensures.answer c.end-answer.ensures.no_call c.end-answer.ensures.not_all)
    ]
