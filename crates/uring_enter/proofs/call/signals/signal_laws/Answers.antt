use Rattle.uring_enter.proofs.SignalRuns.{sleeps_blocked}
use Rattle.uring_enter.proofs.call.signals.signal_laws.Goals as goal

pub returns-clause-sleeps_blocked : goal.returns-clause-sleeps_blocked
returns-clause-sleeps_blocked c = sleeps_blocked
