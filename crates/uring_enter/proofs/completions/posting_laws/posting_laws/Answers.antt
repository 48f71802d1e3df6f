use Rattle.uring_enter.proofs.PostingRuns.{shows_the_cores, shows_each_once}
use Rattle.uring_enter.proofs.completions.posting_laws.posting_laws.Goals as goal

pub returns-clause-shows_the_cores : goal.returns-clause-shows_the_cores
returns-clause-shows_the_cores c = shows_the_cores

pub returns-clause-shows_each_once : goal.returns-clause-shows_each_once
returns-clause-shows_each_once c = shows_each_once
