use Rattle.uring_laws.proofs.Stopping.{ends_there, calls_take_all}
use Rattle.uring_laws.proofs.calls.calls_end_there.Goals as goal

pub returns : goal.returns
returns c = record { there = ends_there; all = calls_take_all }
