use Rattle.uring_rules.proofs.Views.{manual_shown, linux_shown}
use Rattle.uring_rules.proofs.rules.Rules.least.Goals as goal

pub returns-in-Manual : goal.returns-in-Manual
returns-in-Manual c = λ l s.
    c.least.ensures l.requests (manual_shown _ _ _ l c.self.view_is c.in-Manual.is s)

pub returns-in-Linux : goal.returns-in-Linux
returns-in-Linux c = λ l s.
    c.least-in-Linux.ensures l (linux_shown _ _ _ l c.self.view_is c.in-Linux.is s)
