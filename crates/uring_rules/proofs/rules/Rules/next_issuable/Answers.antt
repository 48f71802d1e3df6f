use Rattle.uring_rules.specs.Rules.{issuable_from}
use Rattle.uring_rules.proofs.Views.{manual_shown, linux_shown, told_manual, told_linux}
use Rattle.uring_rules.proofs.rules.Rules.next_issuable.Goals as goal

pub returns-in-Manual : goal.returns-in-Manual
returns-in-Manual c = λ l s.
    told_manual (λ b. issuable_from b l c.args.n) _ _ _ _ c.self.view_is c.in-Manual.is (c.next_issuable.ensures l.requests (manual_shown _ _ _ l c.self.view_is c.in-Manual.is s))

pub returns-in-Linux : goal.returns-in-Linux
returns-in-Linux c = λ l s.
    told_linux (λ b. issuable_from b l c.args.n) _ _ _ _ c.self.view_is c.in-Linux.is (c.next_issuable-in-Linux.ensures l (linux_shown _ _ _ l c.self.view_is c.in-Linux.is s))
