use Rattle.std.proofs.Common.{ap, ◌∙◌}
use Rattle.uring_rules.specs.RulesIssues.{issued, after_issue}
use Rattle.uring_rules.proofs.IssueLemmas.{answered_manual, answered_linux, issue_manual, issue_linux}
use Rattle.uring_rules.specs.declared.rules.Rules.TheInside.{Inside}
use Rattle.uring_rules.proofs.Views.{manual_shown, linux_shown, manual_answers, linux_answers, told_manual, told_linux}
use Rattle.uring_rules.proofs.rules.Rules.issue.Goals as goal
use Rattle.uring_rules.proofs.rules.Rules.issue.Goals.{in-Manual, in-Linux}

pub returns-clause-shows : goal.returns-clause-shows
returns-clause-shows c = λ l s.
    elim c.match-self.branch [
      | in-Manual w ↦ manual_answers (λ b a. after_issue b l c.args.n a) _ _ _ _ _ _ _ w.result-is c.self.view_is w.in-Manual.is (ap (λ (i : Inside). i.kind) w.self-inside-is) (issue_manual _ l c.args.n _ (w.issue_posting.ensures.shows l.requests (manual_shown _ _ _ l c.self.view_is w.in-Manual.is s)))
      | in-Linux w ↦ linux_answers (λ b a. after_issue b l c.args.n a) _ _ _ _ _ _ _ w.result-is c.self.view_is w.in-Linux.is (ap (λ (i : Inside). i.kind) w.self-inside-is) (issue_linux _ l c.args.n _ (w.issue.ensures.shows l (linux_shown _ _ _ l c.self.view_is w.in-Linux.is s)))
    ]

pub returns-clause-answer : goal.returns-clause-answer
returns-clause-answer c = λ l s.
    elim c.match-self.branch [
      | in-Manual w ↦ w.result-is ∙ told_manual (λ b. issued b l c.args.n) _ _ _ _ c.self.view_is w.in-Manual.is (w.issue_posting.ensures.answer l.requests (manual_shown _ _ _ l c.self.view_is w.in-Manual.is s) ∙ answered_manual l c.args.n)
      | in-Linux w ↦ w.result-is ∙ told_linux (λ b. issued b l c.args.n) _ _ _ _ c.self.view_is w.in-Linux.is (w.issue.ensures.answer l (linux_shown _ _ _ l c.self.view_is w.in-Linux.is s) ∙ answered_linux l c.args.n)
    ]
