-- Events that were recorded.
use Rattle.std.specs.Prelude.{ℕ, List}
use Rattle.uring_core.specs.Histories.{Event}

-- Events, the oldest first, and for how many in all there is memory.
pub record Events : Type 0 where
  pub items : List Event
  pub room : ℕ
