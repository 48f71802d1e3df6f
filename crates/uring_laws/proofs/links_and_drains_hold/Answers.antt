use Rattle.uring_laws.proofs.Common.{LinksAndDrainsHold, of_manual}
use Rattle.uring_laws.proofs.OrderLaws.{waits}
use Rattle.uring_laws.proofs.links_and_drains_hold.Goals as goal

pub returns : goal.returns
returns c = λ g manual setup. of_manual LinksAndDrainsHold waits g manual
