use Rattle.uring_rings.proofs.SubmissionSteps.{store_shows}
use Rattle.uring_rings.proofs.sq.Sq.store_tail.Goals as goal

pub returns-clause-shows : goal.returns-clause-shows
returns-clause-shows c = rw (← c.self.view_is) (λ g l s. store_shows g _ l s)
