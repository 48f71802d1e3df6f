use Rattle.uring_enter.proofs.LookoutRuns.{end_lets_none, looks_afresh, wakes_for_each, takes_its_own}
use Rattle.uring_enter.proofs.waiting.lookout.lookout_laws.Goals as goal

pub returns-clause-end_lets_none : goal.returns-clause-end_lets_none
returns-clause-end_lets_none c = end_lets_none

pub returns-clause-looks_afresh : goal.returns-clause-looks_afresh
returns-clause-looks_afresh c = looks_afresh

pub returns-clause-wakes_for_each : goal.returns-clause-wakes_for_each
returns-clause-wakes_for_each c = wakes_for_each

pub returns-clause-takes_its_own : goal.returns-clause-takes_its_own
returns-clause-takes_its_own c = takes_its_own
