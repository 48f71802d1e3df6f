use Rattle.uring_rules.specs.Rules.{why_of}
use Rattle.uring_rules.proofs.Views.{manual_shown, linux_shown, told_manual, told_linux}
use Rattle.uring_rules.proofs.rules.Rules.why.Goals as goal

pub returns-in-Manual : goal.returns-in-Manual
returns-in-Manual c = λ l s.
    told_manual (λ b. why_of b l c.args.n) _ _ _ _ c.self.view_is c.in-Manual.is (c.why.ensures l.requests (manual_shown _ _ _ l c.self.view_is c.in-Manual.is s))

pub returns-in-Linux : goal.returns-in-Linux
returns-in-Linux c = λ l s.
    told_linux (λ b. why_of b l c.args.n) _ _ _ _ c.self.view_is c.in-Linux.is (c.why-in-Linux.ensures l (linux_shown _ _ _ l c.self.view_is c.in-Linux.is s))
