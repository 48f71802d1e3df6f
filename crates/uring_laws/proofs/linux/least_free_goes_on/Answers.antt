use Rattle.uring_laws.specs.LinuxLaws.{LeastFreeGoesOn}
use Rattle.uring_laws.proofs.LinuxSound.{of_linux}
use Rattle.uring_laws.proofs.LinuxLaws.{free_goes}
use Rattle.uring_laws.proofs.linux.least_free_goes_on.Goals as goal

pub returns : goal.returns
returns c = λ g linux setup. of_linux LeastFreeGoesOn free_goes g linux
