use Rattle.std.proofs.Common.{ap, ◌∙◌}
use Rattle.uring_dispatch.specs.IssueAndFinish.{without_posts}
use Rattle.uring_dispatch.proofs.Issues.{posts_apart}
use Rattle.uring_dispatch.proofs.dispatch.Dispatch.issue.Goals as goal

pub returns-clause-answer : goal.returns-clause-answer
returns-clause-answer c = λ r s.
    c.without_posts.ensures ∙ ap without_posts (c.issue_posting.ensures.answer r s) ∙ posts_apart r c.args.n _
