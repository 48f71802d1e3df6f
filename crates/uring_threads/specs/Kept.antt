-- The dispatcher's trace: the events that it recorded, in the order in which they happened, and what they have made.
use Rattle.std.specs.Prelude.{◌≡◌, ℕ, ◌≤◌, List, [], ◌∷◌, ◌++◌, Option}
use Rattle.uring_entry.specs.Setup.{Setup}
use Rattle.uring_rules.specs.Rules.{next_of}
use Rattle.uring_core.specs.World.{World, requests_of}
use Rattle.uring_core.specs.Histories.{Event, History, world, history_of}

-- A core with its trace: the events, the oldest first; for how many events the trace has memory; and the set-up.
pub record Kept : Type 0 where
  pub trace : List Event
  pub room : ℕ
  pub setup : Setup

-- the history of the trace
abbrev pub history : Kept → History
history k = history_of k.trace

-- what the events of the trace have made
abbrev pub now : Kept → World
now k = world k.setup (history k)

-- the least request that can be issued, by the rules of the set-up
abbrev pub next_in : Kept → Option ℕ
next_in k = next_of k.setup.linux (requests_of (now k))

-- The trace has this event more, after all others.
pub record Grows (old new : Kept) (event : Event) : Type 0 where
  pub trace : new.trace ≡ old.trace ++ event ∷ []
  pub room : old.room ≤ new.room
  pub setup : new.setup ≡ old.setup

-- Nothing happened: no event was recorded, though there may be more memory.
pub record IsUnmoved (old new : Kept) : Type 0 where
  pub trace : new.trace ≡ old.trace
  pub room : old.room ≤ new.room
  pub setup : new.setup ≡ old.setup
