use Rattle.uring_rules.specs.Rules.{found_by}
use Rattle.uring_rules.proofs.Views.{manual_shown, linux_shown, told_manual, told_linux}
use Rattle.uring_rules.proofs.rules.Rules.would_find.Goals as goal

pub returns-in-Manual : goal.returns-in-Manual
returns-in-Manual c = λ l s.
    told_manual (λ b. found_by b l.requests c.args.n) _ _ _ _ c.self.view_is c.in-Manual.is (c.would_find.ensures l.requests (manual_shown _ _ _ l c.self.view_is c.in-Manual.is s))

pub returns-in-Linux : goal.returns-in-Linux
returns-in-Linux c = λ l s.
    told_linux (λ b. found_by b l.requests c.args.n) _ _ _ _ c.self.view_is c.in-Linux.is (c.would_find-in-Linux.ensures l (linux_shown _ _ _ l c.self.view_is c.in-Linux.is s))
