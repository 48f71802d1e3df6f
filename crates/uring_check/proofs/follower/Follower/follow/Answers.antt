use Rattle.uring_check.proofs.GrantedAnswers.{at_most}
use Rattle.uring_check.proofs.follower.Follower.follow.Goals as goal

pub returns-in-Whole-clause-granted : goal.returns-in-Whole-clause-granted
returns-in-Whole-clause-granted g c = λ sure h fits none.
    c.follow_in.ensures.granted h _ (rw c.in-Whole.is at fits) (sure _) (at_most _) none

pub returns-in-Apart-clause-granted : goal.returns-in-Apart-clause-granted
returns-in-Apart-clause-granted g c = λ sure h fits none.
    c.follow_in-in-Apart.ensures.granted h _ (rw c.in-Apart.is at fits) (sure _) (at_most _) none

pub returns-in-Allowed-clause-granted : goal.returns-in-Allowed-clause-granted
returns-in-Allowed-clause-granted g c = λ sure h fits none.
    c.follow_in-in-Allowed.ensures.granted h _ (rw c.in-Allowed.is at fits) (sure _) (at_most _) none
