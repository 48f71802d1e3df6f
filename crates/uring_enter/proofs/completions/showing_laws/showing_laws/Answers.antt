use Rattle.uring_enter.proofs.ShowingRuns.{shows_what_was_posted, stands_apart}
use Rattle.uring_enter.proofs.completions.showing_laws.showing_laws.Goals as goal

pub returns-clause-shows_what_was_posted : goal.returns-clause-shows_what_was_posted
returns-clause-shows_what_was_posted c = shows_what_was_posted

pub returns-clause-stands_apart : goal.returns-clause-stands_apart
returns-clause-stands_apart c = stands_apart
