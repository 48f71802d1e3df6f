-- What is left on a machine that was made idle. Our own rule.
use Rattle.std.specs.Prelude.{◌≡◌, ℕ, ◌<◌, List, ◌++◌, length}
use Rattle.uring_entry.specs.Layout.{Cqe}
use Rattle.uring_entry.specs.Completions.{unreaped}
use Rattle.uring_core.specs.Histories.{Event, History, world, history_of}
use Rattle.uring_machine.specs.Machine.{Machine, Fits}
use Rattle.uring_laws.specs.Laws.{times_ended}

-- A machine that fitted this history fits it followed by some events; each accepted request has ended exactly once, and these completions are posted and not reaped.
pub record IsLeft (idle : Machine) (before : History) (completions : List Cqe) : Type 0 where
  pub events : List Event
  pub fits : Fits idle (history_of events ++ before)
  pub ended : (n : ℕ)
      → n < length (world idle.core.setup (history_of events ++ before)).requests.accepted
      → times_ended (history_of events ++ before) n ≡ 1
  pub rest : completions
      ≡ unreaped (world idle.core.setup (history_of events ++ before)).completions
