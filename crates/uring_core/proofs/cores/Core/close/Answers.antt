use Rattle.std.proofs.Common.{◌≡◌, true, false, cond, is_some, ◌∷◌, refl, sym, ap, ◌∙◌}
use Rattle.uring_core.proofs.Common.{Core, FitsApart, History, Setup, ShowsSubmission, Submission}
use Rattle.uring_core.specs.declared.step.Step.TheVariants as step
use Rattle.uring_core.specs.declared.answer.Answer.TheVariants as answer
use Rattle.uring_core.proofs.CoreSteps.{core_after}
use Rattle.uring_core.proofs.cores.Core.close.Goals as goal

close_goes : (p : Core)
    → ((g : Setup) (l : Submission) → ShowsSubmission g p.sq l → false ≡ is_some l.call)
    → (h : History) → FitsApart p h
    → FitsApart (record p { is_closed = true }) ((step.Close, answer.Shut) ∷ h)
close_goes p no_call h f = record {
  shows = let closed : true ≡ true = refl in assumption (f.shows, closed);
  lawful = (ap (λ b. cond b answer.InCall answer.Shut) (no_call p.setup _ f.shows.submission), f.lawful);
}

pub invariant_of-self : goal.invariant_of-self
invariant_of-self c = (c.self.invariant.0, core_after _ _ _ refl (close_goes _ (λ g l s. sym c.if-in_call.false ∙ c.in_call.ensures g l s)) c.self.invariant.1)

pub returns-clause-fits : goal.returns-clause-fits
returns-clause-fits c = rw (← c.self.view_is) (close_goes _ (λ g l s. sym c.if-in_call.false ∙ c.in_call.ensures g l s))

pub returns-then-in_call-clause-fits : goal.returns-then-in_call-clause-fits
returns-then-in_call-clause-fits c = rw (← c.self.view_is) (λ h f. record { shows = f.shows; lawful = (ap (λ b. cond b answer.InCall answer.Shut) (sym c.if-in_call.true ∙ c.in_call.ensures _ _ f.shows.submission), f.lawful) })
