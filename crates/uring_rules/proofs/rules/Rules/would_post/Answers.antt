use Rattle.std.proofs.Common.{rules, w32}
use Rattle.std.proofs.lemmas.Int.{to_z-of_z}
use Rattle.uring_rules.specs.Posting.{would_post}
use Rattle.uring_rules.proofs.Views.{manual_shown, linux_shown, told_manual, told_linux}
use Rattle.uring_rules.proofs.rules.Rules.would_post.Goals as goal

pub returns-in-Manual : goal.returns-in-Manual
returns-in-Manual c = λ l s.
    told_manual (λ b. would_post b l.requests c.args.n c.args.res) _ _ _ _ c.self.view_is c.in-Manual.is (rw (to_z-of_z w32 c.args.res (search rules)) at (c.would_post_manual.ensures l.requests (manual_shown _ _ _ l c.self.view_is c.in-Manual.is s)))

pub returns-in-Linux : goal.returns-in-Linux
returns-in-Linux c = λ l s.
    told_linux (λ b. would_post b l.requests c.args.n c.args.res) _ _ _ _ c.self.view_is c.in-Linux.is (rw (to_z-of_z w32 c.args.res (search rules)) at (c.would_post.ensures l (linux_shown _ _ _ l c.self.view_is c.in-Linux.is s)))
