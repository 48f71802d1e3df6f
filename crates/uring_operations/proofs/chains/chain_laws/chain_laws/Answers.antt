use Rattle.uring_operations.proofs.ChainRuns.{limits_the_one_before, limits_one_at_most, chains_hold, chains_end}
use Rattle.uring_operations.proofs.chains.chain_laws.chain_laws.Goals as goal

pub returns-clause-limits_the_one_before : goal.returns-clause-limits_the_one_before
returns-clause-limits_the_one_before c = limits_the_one_before

pub returns-clause-limits_one_at_most : goal.returns-clause-limits_one_at_most
returns-clause-limits_one_at_most c = limits_one_at_most

pub returns-clause-chains_hold : goal.returns-clause-chains_hold
returns-clause-chains_hold c = chains_hold

pub returns-clause-chains_end : goal.returns-clause-chains_end
returns-clause-chains_end c = chains_end
