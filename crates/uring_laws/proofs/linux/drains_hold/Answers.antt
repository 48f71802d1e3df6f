use Rattle.uring_laws.specs.LinuxLaws.{DrainsHold}
use Rattle.uring_laws.proofs.LinuxSound.{of_linux}
use Rattle.uring_laws.proofs.LinuxLaws.{drains_hold}
use Rattle.uring_laws.proofs.linux.drains_hold.Goals as goal

pub returns : goal.returns
returns c = λ g linux setup. of_linux DrainsHold drains_hold g linux
