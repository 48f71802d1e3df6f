use Rattle.uring_linux.specs.LinuxRequests.{no_request}
use Rattle.uring_rules.proofs.Views.{over_manual, over_linux}
use Rattle.uring_rules.proofs.rules.Rules.new.Goals as goal

pub returns-then-is_linux-clause-shows : goal.returns-then-is_linux-clause-shows
returns-then-is_linux-clause-shows c = over_linux _ no_request c.new.ensures.shows

pub returns-else-is_linux-clause-shows : goal.returns-else-is_linux-clause-shows
returns-else-is_linux-clause-shows c = over_manual _ no_request c.new-else-is_linux.ensures.shows
