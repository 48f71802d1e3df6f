-- What a run of requests on storage of one's own makes of a core. Our own rule.
use Rattle.std.specs.Prelude.{◌≡◌, ℕ, ◌+◌, true, false, ◌++◌}
use Rattle.std.specs.List.{list_all}
use Rattle.uring_entry.specs.Requests.{Requests, entry_of, is_soft, is_last, is_running, is_outstanding, outstanding_in}
use Rattle.uring_core.specs.World.{World}
use Rattle.uring_core.specs.Histories.{History, world}
use Rattle.uring_core.specs.Core.{Core, FitsApart}
use Rattle.uring_machine.specs.Settling.{is_issue_or_finish}

-- no request runs
abbrev pub NoneRuns : World → Type 0
NoneRuns w = (n : ℕ) → is_running w.requests n ≡ false

-- The core fits this history followed by issues and finishes that ended so many requests; none runs.
pub record HasRun (core : Core) (before : History) (ended : ℕ) : Type 0 where
  pub events : History
  pub issues_and_finishes : list_all is_issue_or_finish events ≡ true
  pub fits : FitsApart core (events ++ before)
  pub quiet : NoneRuns (world core.setup (events ++ before))
  pub fewer : outstanding_in (world core.setup (events ++ before)).requests + ended
      ≡ outstanding_in (world core.setup before).requests

-- The core fits this history followed by issues and finishes, and nothing is outstanding.
pub record IsIdle (core : Core) (before : History) : Type 0 where
  pub events : History
  pub issues_and_finishes : list_all is_issue_or_finish events ≡ true
  pub fits : FitsApart core (events ++ before)
  pub none_outstanding : (n : ℕ)
      → is_outstanding (world core.setup (events ++ before)).requests n ≡ false

-- Request n runs, and n + 1 waits after its soft link, in the same chain.
pub record IsNextInChain (r : Requests) (n : ℕ) : Type 0 where
  pub runs : is_running r n ≡ true
  pub soft : is_soft (entry_of r n) ≡ true
  pub joined : is_last r n ≡ false
  pub waits : is_outstanding r (n + 1) ≡ true
  pub unstarted : is_running r (n + 1) ≡ false
