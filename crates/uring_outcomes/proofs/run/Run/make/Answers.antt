use Rattle.uring_outcomes.specs.Runs.{entries_of}
use Rattle.uring_outcomes.proofs.run.Run.make.Goals as goal

pub returns-in_ok-issue-in-Issue-clause-made : goal.returns-in_ok-issue-in-Issue-clause-made
returns-in_ok-issue-in-Issue-clause-made g c = λ m at. rw c.in-Issue.is (c.in_ok-issue-in-Issue.ensures.made (entries_of c.args.calls.now) m at)

pub returns-in_ok-finish-in-Finish-clause-made : goal.returns-in_ok-finish-in-Finish-clause-made
returns-in_ok-finish-in-Finish-clause-made g c = λ m at.
    rw (c.is_some.ensures, c.in-Finish.is) (c.in_ok-finish-in-Finish.ensures.made (entries_of c.args.calls.now) m at)
