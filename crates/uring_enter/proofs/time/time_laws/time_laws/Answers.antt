use Rattle.uring_enter.proofs.TimeoutRuns.{ends_in_time, ends_once, ends_alone, runs_apart, passes_none_over}
use Rattle.uring_enter.proofs.time.time_laws.time_laws.Goals as goal

pub returns-clause-ends_in_time : goal.returns-clause-ends_in_time
returns-clause-ends_in_time c = ends_in_time

pub returns-clause-ends_once : goal.returns-clause-ends_once
returns-clause-ends_once c = ends_once

pub returns-clause-ends_alone : goal.returns-clause-ends_alone
returns-clause-ends_alone c = ends_alone

pub returns-clause-runs_apart : goal.returns-clause-runs_apart
returns-clause-runs_apart c = runs_apart

pub returns-clause-passes_none_over : goal.returns-clause-passes_none_over
returns-clause-passes_none_over c = passes_none_over
