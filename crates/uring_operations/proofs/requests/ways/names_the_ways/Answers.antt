use Rattle.uring_operations.proofs.WayRuns.{names_the_ways}
use Rattle.uring_operations.proofs.requests.ways.names_the_ways.Goals as goal

pub returns : goal.returns
returns c = names_the_ways
