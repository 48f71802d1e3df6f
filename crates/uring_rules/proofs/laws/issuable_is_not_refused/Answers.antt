use Rattle.uring_rules.proofs.RulesLemmas.{issuable_goes}
use Rattle.uring_rules.proofs.laws.issuable_is_not_refused.Goals as goal

pub returns : goal.returns
returns c = issuable_goes
