use Rattle.uring_rules.proofs.Calls.{whole_call}
use Rattle.uring_rules.proofs.laws.a_call_is_its_entries.Goals as goal

pub returns : goal.returns
returns c = whole_call
