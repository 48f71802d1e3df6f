use Rattle.uring_enter.proofs.TakingRuns.{takes_each_once, takes_none_after_an_end}
use Rattle.uring_enter.proofs.taking_up.taking_laws.taking_laws.Goals as goal

pub returns-clause-takes_each_once : goal.returns-clause-takes_each_once
returns-clause-takes_each_once c = takes_each_once

pub returns-clause-takes_none_after_an_end : goal.returns-clause-takes_none_after_an_end
returns-clause-takes_none_after_an_end c = takes_none_after_an_end
