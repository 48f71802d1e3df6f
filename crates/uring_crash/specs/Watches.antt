-- Glue. What a watch of a file holds.
use Rattle.std.specs.Prelude.{◌≡◌, ℕ, ℤ, []}
use Rattle.uring_entry.specs.Setup.{Setup}
use Rattle.uring_core.specs.Histories.{History}
use Rattle.uring_machine.specs.Machine.{Machine, Fits}
use Rattle.uring_crash_machine.specs.Logs.{Log, log_of}
use Rattle.uring_crash.specs.declared.watch.Watch.{Watch}

-- The machine fits a history, and the log is that of the file.
pub record Watching (unit : ℕ) (setup : Setup) (fd : ℤ) (m : Machine) (log : Log) (h : History) : Type 0 where
  pub same : m.core.setup ≡ setup
  pub fits : Fits m h
  pub logs : log ≡ log_of unit setup fd h
  -- its volume began with no bytes, in these units
  pub units : log.volume.unit ≡ unit
  pub begins : log.volume.first ≡ []

-- The watch has seen this history.
abbrev pub Watches : ℕ → Setup → ℤ → Watch → History → Type 0
Watches unit setup fd w h = Watching unit setup fd w.machine w.log h
