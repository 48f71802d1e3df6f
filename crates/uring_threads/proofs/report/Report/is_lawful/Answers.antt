use Rattle.uring_threads.proofs.Reporting.{settled_lawful}
use Rattle.uring_threads.proofs.report.Report.is_lawful.Goals as goal

pub returns-clause-lawful : goal.returns-clause-lawful
returns-clause-lawful g c = rw (← c.self.view_is) (settled_lawful c.self.inside.kept c.self.inside.workers.items c.self.invariant.1.some c.self.invariant.0)
