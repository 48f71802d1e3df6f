use Rattle.uring_laws.proofs.Common.{CancelledWereDoomed, DoomedNeverRun, DoomedStayDoomed, History, IsLawfulApart}
use Rattle.uring_laws.proofs.LinuxSound.{of_linux}
use Rattle.uring_laws.proofs.LinuxLaws.{never_run, stay_doomed, were_doomed}
use Rattle.uring_laws.proofs.linux.doomed_are_never_started.Goals as goal

pub returns : goal.returns
returns c = record {
  never_run = λ g linux h setup lawful. of_linux (λ g. (h : History) → IsLawfulApart g h → DoomedNeverRun g h) never_run g linux h lawful;
  stay_doomed = λ g linux setup. of_linux DoomedStayDoomed stay_doomed g linux;
  were_doomed = λ g linux setup. of_linux CancelledWereDoomed were_doomed g linux;
}
