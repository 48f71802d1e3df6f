use Rattle.uring_rules.proofs.RulesLemmas.{cancel_tells}
use Rattle.uring_rules.proofs.laws.cancels_tell.Goals as goal

pub returns : goal.returns
returns c = cancel_tells
