use Rattle.std.proofs.Common.{Bool, sym, subst, ◌∙◌}
use Rattle.uring_crash.proofs.Common.{ReadsLine}
use Rattle.uring_crash.proofs.FollowedLines.{line_made, line_remarked, line_bad}
use Rattle.uring_crash.proofs.follower.Follower.read_line.Goals as goal

pub returns-in-Some-clause-read : goal.returns-in-Some-clause-read
returns-in-Some-clause-read g c = λ line k.
    line_made _ _ c.args.self.now.has_bad line c.in-Some.step c.in_ok-step-2.field-0 (rw c.in-Some.is at (c.in_ok-step.ensures.step line k)) c.in_ok-step-2.ensures.watches

pub returns-then-is_remark-clause-read : goal.returns-then-is_remark-clause-read
returns-then-is_remark-clause-read g c = λ line k.
    line_remarked _ _ line (rw c.in_default.is at (c.in_ok-step.ensures.step line k)) (sym (c.is_remark.ensures line k) ∙ c.if-is_remark.true)

pub returns-then-self-clause-read : goal.returns-then-self-clause-read
returns-then-self-clause-read g c = λ line k.
    subst (λ (b : Bool). ReadsLine c.args.self.now.watch c.args.self.now.watch c.args.self.now.has_bad b line) (sym c.if-self.true)
    (line_bad _ _ line (rw c.in_default.is at (c.in_ok-step.ensures.step line k)) (sym (c.is_remark.ensures line k) ∙ c.if-is_remark.false))

pub returns-clause-read : goal.returns-clause-read
returns-clause-read g c = λ line k.
    line_bad _ _ line (rw c.in_default.is at (c.in_ok-step.ensures.step line k)) (sym (c.is_remark.ensures line k) ∙ c.if-is_remark.false)
