use Rattle.uring_laws.specs.LinuxLaws.{CancelsDoomNobody}
use Rattle.uring_laws.proofs.LinuxSound.{of_linux}
use Rattle.uring_laws.proofs.LinuxLaws.{none_cancelled}
use Rattle.uring_laws.proofs.linux.cancels_doom_nobody.Goals as goal

pub returns : goal.returns
returns c = λ g linux setup. of_linux CancelsDoomNobody none_cancelled g linux
