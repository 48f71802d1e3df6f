use Rattle.std.proofs.Common.{slice_get}
use Rattle.uring_rules.specs.Rules.{issuables_of}
use Rattle.uring_rules.proofs.Views.{manual_shown, linux_shown, told_manual, told_linux}
use Rattle.uring_rules.proofs.rules.Rules.nth_issuable.Goals as goal

pub returns-in-Manual : goal.returns-in-Manual
returns-in-Manual c = λ l s.
    told_manual (λ b. slice_get (issuables_of b l) c.args.k) _ _ _ _ c.self.view_is c.in-Manual.is (c.nth_issuable.ensures l.requests (manual_shown _ _ _ l c.self.view_is c.in-Manual.is s))

pub returns-in-Linux : goal.returns-in-Linux
returns-in-Linux c = λ l s.
    told_linux (λ b. slice_get (issuables_of b l) c.args.k) _ _ _ _ c.self.view_is c.in-Linux.is (c.nth_issuable-in-Linux.ensures l (linux_shown _ _ _ l c.self.view_is c.in-Linux.is s))
