-- What a search for the moments of effects comes to.
use Rattle.uring_entry.specs.Setup.{Setup}
use Rattle.uring_core.specs.Histories.{History, IsLawfulApart}
use Rattle.uring_effect_points.specs.Effects.{IsLawfulEarly}
use Rattle.uring_effect_points.specs.declared.search.Fate.{Fate}
use Rattle.uring_effect_points.specs.declared.search.Fate.TheVariants as fate
use Rattle.uring_effect_points.specs.declared.decision.EffectsFound.{EffectsFound}
use Rattle.uring_effect_points.specs.declared.decision.EffectsFound.TheVariants.{Lawful, Unlawful, Unexplained, GaveUp}

-- The history is lawful by early effects; it isn't lawful apart from what operations gave; it is, but not by early effects; or nothing is claimed but that it is lawful apart from what operations gave.
abbrev pub IsFound : Setup → History → EffectsFound → Type 0
IsFound g h Lawful = IsLawfulEarly g h
IsFound g h Unlawful = IsLawfulApart g h → ⊥
IsFound g h Unexplained = IsLawfulApart g h × (IsLawfulEarly g h → ⊥)
IsFound g h GaveUp = IsLawfulApart g h

-- Glue. What was found, by where the search was.
abbrev pub found_by : Fate → EffectsFound
found_by fate.Explained = Lawful
found_by fate.Over = Unexplained
found_by fate.Open = GaveUp
