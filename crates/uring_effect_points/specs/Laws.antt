-- The laws of early effects.
use Rattle.std.specs.Prelude.{◌≡◌, true, false, [], ◌∷◌}
use Rattle.uring_entry.specs.Requests.{Requests, entry_of}
use Rattle.uring_entry.specs.Setup.{Setup}
use Rattle.uring_entry.specs.Results.{may_end}
use Rattle.uring_core.specs.CalledFor.{IsLawful}
use Rattle.uring_core.specs.Histories.{Event, History, world}
use Rattle.uring_core.specs.declared.step.Step.TheVariants as step
use Rattle.uring_core.specs.declared.answer.Answer.TheVariants as answer
use Rattle.uring_effect_points.specs.Effects.{Timeline, made_in, ends_in_effect, EffectsWait, IsTimely, IsLawfulEarly}

-- Effects at the finish are such effects: each history that is lawful by the core's files is lawful by early effects.
abbrev pub EarlyEffectsAllowMore : Setup → Type 0
EarlyEffectsAllowMore g = (h : History) → IsLawful g h → IsLawfulEarly g h

-- a running request ends with a result that its operation may give, whatever its file has
abbrev pub GivesAllowed : Requests → Event → Type 0
GivesAllowed r (step.Finish n, answer.Ended res bytes) = may_end (entry_of r n) res ≡ true
GivesAllowed r event = Unit {0}

-- each does
abbrev pub GiveAllowed : Setup → History → Type 0
GiveAllowed g [] = Unit {0}
GiveAllowed g (event ∷ before) = GivesAllowed (world g before).requests event × GiveAllowed g before

-- Whenever effects are taken, each result is one that its operation may give.
abbrev pub EarlyEffectsGiveAllowed : Setup → Type 0
EarlyEffectsGiveAllowed g = (h : History) → IsLawfulEarly g h → GiveAllowed g h

-- The history is that of a timeline in which effects wait for a finish, and each is there for one.
pub record IsLawfulLate (g : Setup) (h : History) : Type 0 where
  pub timeline : Timeline
  pub made : made_in timeline ≡ h
  pub timely : IsTimely g timeline
  pub waits : EffectsWait timeline
  pub ends : ends_in_effect timeline ≡ false

-- Effects can wait: a search need put them right before finishes alone, and the last of them is that of the request that finishes.
abbrev pub EarlyEffectsCanWait : Setup → Type 0
EarlyEffectsCanWait g = (h : History) → IsLawfulEarly g h → IsLawfulLate g h
