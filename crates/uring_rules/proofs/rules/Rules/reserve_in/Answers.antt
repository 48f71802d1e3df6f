use Rattle.std.proofs.Common.{◌+◌, ◌<◌, IsErrOf, ap, subst}
use Rattle.uring_dispatch.specs.declared.errors.ReserveError.TheVariants.{NoMemory}
use Rattle.uring_rules.specs.declared.rules.Rules.TheInside.{Inside}
use Rattle.uring_rules.proofs.Views.{manual_shown, linux_shown, manual_goes, linux_goes, manual_accepted, linux_accepted}
use Rattle.uring_rules.proofs.rules.Rules.reserve_in.Goals as goal
use Rattle.uring_rules.proofs.rules.Rules.reserve_in.Goals.{in-Manual, in-Linux}

pub returns-clause-shows : goal.returns-clause-shows
returns-clause-shows g c = λ l s.
    elim c.match-self.branch [
      | in-Manual w ↦ manual_goes (λ b. l) _ _ _ _ _ c.self.view_is w.in-Manual.is (ap (λ (i : Inside). i.kind) w.self-inside-is) (w.reserve_in.ensures.shows l.requests (manual_shown _ _ _ l c.self.view_is w.in-Manual.is s))
      | in-Linux w ↦ linux_goes (λ b. l) _ _ _ _ _ c.self.view_is w.in-Linux.is (ap (λ (i : Inside). i.kind) w.self-inside-is) (w.reserve_in-in-Linux.ensures.shows l (linux_shown _ _ _ l c.self.view_is w.in-Linux.is s))
    ]

pub returns-clause-granted : goal.returns-clause-granted
returns-clause-granted g c = λ l n s grants few short.
    elim c.match-self.branch [
      | in-Manual w ↦ w.reserve_in.ensures.granted l.requests n (manual_shown _ _ _ l c.self.view_is w.in-Manual.is s) grants
          (subst (λ a. a + c.args.count < n) (manual_accepted _ _ _ c.self.view_is w.in-Manual.is) few) (subst (λ r. IsErrOf r NoMemory) w.result-is short)
      | in-Linux w ↦ w.reserve_in-in-Linux.ensures.granted n grants
          (subst (λ a. a + c.args.count < n) (linux_accepted _ _ _ c.self.view_is w.in-Linux.is) few) (subst (λ r. IsErrOf r NoMemory) w.result-is short)
    ]
