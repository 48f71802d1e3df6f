use Rattle.std.proofs.Common.{ap}
use Rattle.uring_rules.specs.RulesCalls.{cut_by}
use Rattle.uring_rules.specs.declared.rules.Rules.TheInside.{Inside}
use Rattle.uring_rules.proofs.Views.{manual_shown, linux_shown, manual_goes, linux_goes}
use Rattle.uring_rules.proofs.rules.Rules.end_call.Goals as goal
use Rattle.uring_rules.proofs.rules.Rules.end_call.Goals.{in-Manual, in-Linux}

pub returns-clause-shows : goal.returns-clause-shows
returns-clause-shows c = λ l s.
    elim c.match-self.branch [
      | in-Manual w ↦ manual_goes (λ b. cut_by b l) _ _ _ _ _ c.self.view_is w.in-Manual.is (ap (λ (i : Inside). i.kind) w.self-inside-is) (w.end_call.ensures.shows l.requests (manual_shown _ _ _ l c.self.view_is w.in-Manual.is s))
      | in-Linux w ↦ linux_goes (λ b. cut_by b l) _ _ _ _ _ c.self.view_is w.in-Linux.is (ap (λ (i : Inside). i.kind) w.self-inside-is) (w.end_call-in-Linux.ensures.shows l (linux_shown _ _ _ l c.self.view_is w.in-Linux.is s))
    ]
