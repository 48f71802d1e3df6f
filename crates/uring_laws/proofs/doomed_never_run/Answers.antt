use Rattle.uring_laws.proofs.Common.{History, IsLawfulApart, of_manual}
use Rattle.uring_laws.specs.Laws.{DoomedNeverRun, DoomedStayDoomed, CancelledWereDoomed}
use Rattle.uring_laws.proofs.OrderLaws.{never_run, were_doomed, stay_doomed}
use Rattle.uring_laws.proofs.doomed_never_run.Goals as goal

pub returns : goal.returns
returns c = record {
  never_run = λ g manual h setup lawful. of_manual (λ g. (h : History) → IsLawfulApart g h → DoomedNeverRun g h) never_run g manual h lawful;
  stay_doomed = λ g manual setup. of_manual DoomedStayDoomed stay_doomed g manual;
  were_doomed = λ g manual setup. of_manual CancelledWereDoomed were_doomed g manual;
}
