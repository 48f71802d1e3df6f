use Rattle.uring_enter.proofs.CancelRuns.{cancels_what_fits, cancels_the_first, asks_what_matters, asks_wait_where_it_matters, finds_first_that_wait, passes_over_linked}
use Rattle.uring_enter.proofs.cancels.cancel_laws.cancel_laws.Goals as goal

pub returns-clause-cancels_what_fits : goal.returns-clause-cancels_what_fits
returns-clause-cancels_what_fits c = cancels_what_fits

pub returns-clause-cancels_the_first : goal.returns-clause-cancels_the_first
returns-clause-cancels_the_first c = cancels_the_first

pub returns-clause-asks_what_matters : goal.returns-clause-asks_what_matters
returns-clause-asks_what_matters c = asks_what_matters

pub returns-clause-asks_wait_where_it_matters : goal.returns-clause-asks_wait_where_it_matters
returns-clause-asks_wait_where_it_matters c = asks_wait_where_it_matters

pub returns-clause-finds_first_that_wait : goal.returns-clause-finds_first_that_wait
returns-clause-finds_first_that_wait c = finds_first_that_wait

pub returns-clause-passes_over_linked : goal.returns-clause-passes_over_linked
returns-clause-passes_over_linked c = passes_over_linked
