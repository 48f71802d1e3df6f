use Rattle.uring_rules.proofs.RulesLemmas.{run_tells, start_plain}
use Rattle.uring_rules.proofs.laws.what_starts_is_plain.Goals as goal

pub returns : goal.returns
returns c = λ is_linux l n op e. start_plain is_linux l n (run_tells is_linux l n op e)
