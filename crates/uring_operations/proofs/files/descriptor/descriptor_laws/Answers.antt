use Rattle.uring_operations.proofs.DescriptorRuns.{finds_the_kind, asks_unless_said, asks_once}
use Rattle.uring_operations.proofs.files.descriptor.descriptor_laws.Goals as goal

pub returns-clause-finds_the_kind : goal.returns-clause-finds_the_kind
returns-clause-finds_the_kind c = finds_the_kind

pub returns-clause-asks_unless_said : goal.returns-clause-asks_unless_said
returns-clause-asks_unless_said c = asks_unless_said

pub returns-clause-asks_once : goal.returns-clause-asks_once
returns-clause-asks_once c = asks_once
