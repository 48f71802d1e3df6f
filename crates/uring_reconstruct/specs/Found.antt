-- What a search for a history that shows what was seen comes to.
use Rattle.std.specs.Prelude.{◌≡◌, ◌≤◌, ℕ, List, [], length}
use Rattle.uring_entry.specs.Setup.{Setup}
use Rattle.uring_core.specs.Histories.{Event, History, history_of}
use Rattle.uring_reconstruct.specs.Filling.{seen_in, IsFilling, IsPart}
use Rattle.uring_reconstruct.specs.Parts.{IsReach, IsSearch}
use Rattle.uring_reconstruct.specs.declared.search.Filled.{Filled}
use Rattle.uring_reconstruct.specs.declared.search.Filled.TheVariants.{Whole, Nothing, GaveUp}
use Rattle.uring_reconstruct.specs.declared.search.Fate.{Fate}
use Rattle.uring_reconstruct.specs.declared.search.Fate.TheVariants.{Found, Over, Open}
use Rattle.uring_reconstruct.specs.declared.search.Reach.{Reach}

-- no history shows what was seen, and none shows more of it than this many steps
pub record HasNone (g : Setup) (seen : List Event) (place : ℕ) : Type 0 where
  pub none : (h : History) → IsFilling g seen h → ⊥
  pub furthest : (h : History) → IsPart g seen h → length (seen_in h) ≤ place

-- What a search may return: a history that shows exactly what was seen; or that there is none, with one that comes as far as any does; or that it gave up, with one that it had come to.
abbrev pub IsFound : Setup → List Event → Filled → Type 0
IsFound g seen (Whole events) = IsFilling g seen (history_of events.items)
IsFound g seen (Nothing reach) =
    HasNone g seen reach.place × IsReach g seen reach.events.items reach.place
IsFound g seen (GaveUp reach) = IsReach g seen reach.events.items reach.place

-- Glue. What a search came to, by where it is.
abbrev pub filled_by : Fate → Reach → Filled
filled_by Found reach = Whole reach.events
filled_by Over reach = Nothing reach
filled_by Open reach = GaveUp reach

-- Glue. Where a search is, and how it stands there.
abbrev pub HasFate : Setup → List Event → Fate → List (List Event) → Reach → Type 0
HasFate g seen Found todo reach = IsFilling g seen (history_of reach.events.items)
HasFate g seen Over todo reach =
    (todo ≡ []) × IsSearch g seen todo reach.events.items reach.place
HasFate g seen Open todo reach = IsSearch g seen todo reach.events.items reach.place
