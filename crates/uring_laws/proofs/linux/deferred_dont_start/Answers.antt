use Rattle.uring_laws.specs.LinuxLaws.{DeferredDontStart}
use Rattle.uring_laws.proofs.LinuxSound.{of_linux}
use Rattle.uring_laws.proofs.LinuxLaws.{not_deferred}
use Rattle.uring_laws.proofs.linux.deferred_dont_start.Goals as goal

pub returns : goal.returns
returns c = λ g linux setup. of_linux DeferredDontStart not_deferred g linux
