use Rattle.uring_rules.proofs.RulesLemmas.{doomed_fails}
use Rattle.uring_rules.proofs.laws.doomed_requests_fail.Goals as goal

pub returns : goal.returns
returns c = doomed_fails
