use Rattle.uring_laws.specs.LinuxLaws.{MembersGoInOrder}
use Rattle.uring_laws.proofs.LinuxSound.{of_linux}
use Rattle.uring_laws.proofs.LinuxLaws.{in_order}
use Rattle.uring_laws.proofs.linux.members_go_in_order.Goals as goal

pub returns : goal.returns
returns c = λ g linux setup. of_linux MembersGoInOrder in_order g linux
