use Rattle.uring_register.proofs.UseRuns.{is_gone_once, ends_as_it_is}
use Rattle.uring_register.proofs.tables.use_laws.use_laws.Goals as goal

pub returns-clause-is_gone_once : goal.returns-clause-is_gone_once
returns-clause-is_gone_once c = is_gone_once

pub returns-clause-ends_as_it_is : goal.returns-clause-ends_as_it_is
returns-clause-ends_as_it_is c = ends_as_it_is
