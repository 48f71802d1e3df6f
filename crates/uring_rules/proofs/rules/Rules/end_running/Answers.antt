use Rattle.std.proofs.Common.{ap, ◌∙◌, rules, w32}
use Rattle.std.proofs.lemmas.Int.{to_z-of_z}
use Rattle.uring_rules.specs.RulesIssues.{posted_by, after_end}
use Rattle.uring_rules.proofs.IssueLemmas.{end_manual, end_linux}
use Rattle.uring_rules.specs.declared.rules.Rules.TheInside.{Inside}
use Rattle.uring_rules.proofs.Views.{manual_shown, linux_shown, manual_answers, linux_answers, told_manual, told_linux}
use Rattle.uring_rules.proofs.rules.Rules.end_running.Goals as goal
use Rattle.uring_rules.proofs.rules.Rules.end_running.Goals.{in-Manual, in-Linux}

pub returns-clause-shows : goal.returns-clause-shows
returns-clause-shows c = λ l bytes s.
    elim c.match-self.branch [
      | in-Manual w ↦ manual_answers (λ b p. after_end b l c.args.n c.args.res bytes p) _ _ _ _ _ _ _ w.result-is c.self.view_is w.in-Manual.is (ap (λ (i : Inside). i.kind) w.self-inside-is) (end_manual _ l c.args.n c.args.res bytes _ (rw (to_z-of_z w32 c.args.res (search rules)) at (w.end_running.ensures.shows l.requests bytes (manual_shown _ _ _ l c.self.view_is w.in-Manual.is s))))
      | in-Linux w ↦ linux_answers (λ b p. after_end b l c.args.n c.args.res bytes p) _ _ _ _ _ _ _ w.result-is c.self.view_is w.in-Linux.is (ap (λ (i : Inside). i.kind) w.self-inside-is) (end_linux _ l c.args.n c.args.res bytes _ (rw (to_z-of_z w32 c.args.res (search rules)) at (w.end_running-in-Linux.ensures.shows l bytes (linux_shown _ _ _ l c.self.view_is w.in-Linux.is s))))
    ]

pub returns-clause-answer : goal.returns-clause-answer
returns-clause-answer c = λ l s.
    elim c.match-self.branch [
      | in-Manual w ↦ w.result-is ∙ told_manual (λ b. posted_by b l c.args.n c.args.res) _ _ _ _ c.self.view_is w.in-Manual.is (rw (to_z-of_z w32 c.args.res (search rules)) at (w.end_running.ensures.answer l.requests (manual_shown _ _ _ l c.self.view_is w.in-Manual.is s)))
      | in-Linux w ↦ w.result-is ∙ told_linux (λ b. posted_by b l c.args.n c.args.res) _ _ _ _ c.self.view_is w.in-Linux.is (rw (to_z-of_z w32 c.args.res (search rules)) at (w.end_running-in-Linux.ensures.answer l (linux_shown _ _ _ l c.self.view_is w.in-Linux.is s)))
    ]
