-- How a machine is settled, and what is left once nothing is outstanding.
use Rattle.std.specs.Prelude.{◌≡◌, ℕ, ◌+◌, ◌*◌, ◌≤◌, Bool, true, false, List, [], ◌∷◌, ◌++◌, length, Option, Some, None}
use Rattle.std.specs.List.{list_all}
use Rattle.uring_entry.specs.Setup.{Setup}
use Rattle.uring_entry.specs.Requests.{is_outstanding, least_of, outstanding_in}
use Rattle.uring_rules.specs.Rules.{next_of}
use Rattle.uring_core.specs.World.{requests_of}
use Rattle.uring_core.specs.Histories.{Event, History, world, history_of}
use Rattle.uring_core.specs.Events.{started_by}
use Rattle.uring_machine.specs.Machine.{Machine, Fits, IsUnrefused}
use Rattle.uring_core.specs.declared.step.Step.{Step}
use Rattle.uring_core.specs.declared.step.Step.TheVariants as step

-- whether an event is an Issue or a Finish
abbrev pub is_issue_or_finish : Event → Bool
is_issue_or_finish (step.Issue n, answer) = true
is_issue_or_finish (step.Finish n, answer) = true
is_issue_or_finish event = false

-- the request that the last of these events started, the oldest first: this one, if there is no event
abbrev pub started_last : Option ℕ → List Event → Option ℕ
started_last started [] = started
started_last started (event ∷ later) = started_last (started_by event) later

-- the step that settles further: the finish of the request that was just started, else the issue of the next one, and if none can be issued the finish of the least outstanding one. Our own rule
abbrev pub settling_step : (started next least : Option ℕ) → Option Step
settling_step (Some n) next least = Some (step.Finish n)
settling_step None (Some n) least = Some (step.Issue n)
settling_step None None (Some n) = Some (step.Finish n)
settling_step None None None = None

-- each of these events, the oldest first, is the step that settles further: the first of them after this history, in which this request was just started
abbrev pub AreSettling : Setup → History → Option ℕ → List Event → Type 0
AreSettling g before started [] = Unit {0}
AreSettling g before started ((s, a) ∷ later) =
    let l = requests_of (world g before) in
    (settling_step started (next_of g.linux l) (least_of l.requests) ≡ Some s)
    × AreSettling g ((s, a) ∷ before) (started_by (s, a)) later

-- no answer of these events, the oldest first, says that memory was refused: the first of them after this history
abbrev pub AreUnrefused : Setup → History → List Event → Type 0
AreUnrefused g before [] = Unit {0}
AreUnrefused g before ((s, a) ∷ later) =
    IsUnrefused g (world g before) s a × AreUnrefused g ((s, a) ∷ before) later

-- So many events, the oldest first, each the Issue or the Finish that settles further: a machine that fits the history followed by them. If memory is granted, none of them says that it was refused.
pub record Settles (granted : Type 0) (now : Machine) (before : History) (count : ℕ) : Type 0 where
  pub events : List Event
  pub issues_and_finishes : list_all is_issue_or_finish events ≡ true
  pub settling : AreSettling now.core.setup before None events
  pub fits : Fits now (history_of events ++ before)
  pub many : length events ≡ count
  pub unrefused : granted → AreUnrefused now.core.setup before events

-- A machine that fitted this history fits it followed by so many events that settled further, which ended so many requests: at most two for each. No request was started last.
pub record HasSettled (granted : Type 0) (old new : Machine) (before : History) (count ended : ℕ) : Type 0 where
  pub settles : Settles granted new before count
  pub none_started : started_last None settles.events ≡ None
  pub few : count ≤ 2 * ended
  pub fewer : new.core.dispatch.outstanding + ended ≡ old.core.dispatch.outstanding

-- A machine that fitted this history was made idle: it fits the history followed by so many events that settled further, and nothing is outstanding. The events are at most two for each request that was outstanding.
pub record IsSettledIf (granted : Type 0) (idle : Machine) (before : History) (count : ℕ) : Type 0 where
  pub settles : Settles granted idle before count
  pub few : count ≤ 2 * outstanding_in (world idle.core.setup before).requests
  pub none_outstanding : (n : ℕ)
      → is_outstanding (world idle.core.setup (history_of settles.events ++ before)).requests n
      ≡ false

-- as above, and nothing is known of memory
abbrev pub IsSettled : Machine → History → ℕ → Type 0
IsSettled = IsSettledIf ⊥
