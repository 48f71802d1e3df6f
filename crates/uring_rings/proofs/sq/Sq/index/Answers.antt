use Rattle.std.proofs.Common.{rules}
use Rattle.uring_rings.proofs.SubmissionSteps.{index_shows}
use Rattle.uring_rings.proofs.sq.Sq.index.Goals as goal

pub returns-clause-shows : goal.returns-clause-shows
returns-clause-shows c =
    rw (← c.self.view_is) (λ g l s. index_shows g _ l c.distance.result _ _ c.args.word c.self.invariant s (search rules) (search rules) (search rules) (search rules) (search rules))
