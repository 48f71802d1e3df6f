use Rattle.std.proofs.Common.{rules}
use Rattle.uring_rings.proofs.SubmissionCalls.{is_done, end_answers, end_shows}
use Rattle.uring_rings.proofs.sq.Sq.end.Goals as goal

pub returns-clause-answer : goal.returns-clause-answer
returns-clause-answer c =
    rw (← c.self.view_is) (λ g l s. end_answers g _ l c.in-Some.call _ s (is_done g _ l c.in-Some.call s c.in-Some.is (search rules)) (search rules))

pub returns-clause-shows : goal.returns-clause-shows
returns-clause-shows c =
    rw (← c.self.view_is) (λ g l s. end_shows g _ l c.in-Some.call _ s (is_done g _ l c.in-Some.call s c.in-Some.is (search rules)) (search rules))
