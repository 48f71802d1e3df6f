use Rattle.uring_operations.proofs.AskingRuns.{takes_back_what_it_asked, calls_never_sleep}
use Rattle.uring_operations.proofs.files.asking.asking_laws.Goals as goal

pub returns-clause-takes_back_what_it_asked : goal.returns-clause-takes_back_what_it_asked
returns-clause-takes_back_what_it_asked c = takes_back_what_it_asked

pub returns-clause-calls_never_sleep : goal.returns-clause-calls_never_sleep
returns-clause-calls_never_sleep c = calls_never_sleep
