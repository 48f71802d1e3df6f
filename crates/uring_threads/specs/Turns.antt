-- What ties the dispatcher's lists to its trace, and what a turn of it counts.
use Rattle.std.specs.Prelude.{◌≡◌, ℕ, ◌+◌, Bool, true, false, List, [], ◌++◌, length, count_by, if◌then◌else◌}
use Rattle.uring_entry.specs.Completions.{Completions}
use Rattle.uring_entry.specs.Layout.{Cqe}
use Rattle.uring_entry.specs.Setup.{Setup}
use Rattle.uring_entry.specs.Submission.{published_items}
use Rattle.uring_laws.specs.Standing.{Stands}
use Rattle.uring_core.specs.StepAnswers.{is_spent}
use Rattle.uring_core.specs.World.{World}
use Rattle.uring_ports.specs.Items.{all_published_as, AreItems}
use Rattle.uring_ports.specs.Ports.{Put, items_of_calls}
use Rattle.uring_threads.specs.Calls.{lengths_of, calls_left}
use Rattle.uring_threads.specs.Dispatched.{HaveCarried}
use Rattle.uring_threads.specs.Kept.{Kept, now}
use Rattle.uring_threads.specs.Tallies.{Adds, closes_ring}
use Rattle.uring_threads.specs.declared.intake.Intake.{Intake}
use Rattle.uring_threads.specs.declared.intake.Intake.TheVariants as intake
use Rattle.uring_threads.specs.declared.turns.Turn.{Turn}
use Rattle.uring_workers.specs.declared.work_lanes.WorkLanes.{WorkLanes}

-- how many positions are published and not taken
abbrev pub waiting_in : Intake → ℕ
waiting_in (intake.Waiting count) = count
waiting_in (intake.Spent count) = count
waiting_in _ = 0

-- whether the close mark was pulled
abbrev pub is_shut : Intake → Bool
is_shut intake.Closed = true
is_shut _ = false

-- a call is given up only if the numbers of requests are spent
abbrev pub IsGivenUpAsSpent : World → Intake → Type 0
IsGivenUpAsSpent w (intake.Spent count) = is_spent w count ≡ true
IsGivenUpAsSpent w _ = Unit {0}

-- All that was pulled is in the submission ring: its items, in order, are published, if they are items of a ring of this size; its calls were begun, each as long as it was pulled, by Linux's rules cut after each word that names no slot, but for those that wait or were given up; and the ring is closed once the close mark was pulled. Between calls the ring stands.
pub record Tied (g : Setup) (w : World) (pulled : Put) (i : Intake) : Type 0 where
  pub published : AreItems g.sq (items_of_calls pulled.calls)
      → published_items w.submission ≡ all_published_as (items_of_calls pulled.calls)
  pub calls : w.submission.calls ++ calls_left g w.submission
      ≡ lengths_of g pulled.calls
  pub stands : Stands w.submission [] (waiting_in i)
  pub spent : IsGivenUpAsSpent w i
  pub closed : w.is_closed ≡ pulled.closed
  pub shut : is_shut i ≡ pulled.closed

-- The trace has one Close once the close mark was pulled, and none before.
abbrev pub ClosesOnce : Kept → Intake → Type 0
ClosesOnce kept i = count_by closes_ring kept.trace ≡ (if is_shut i then 1 else 0)

-- The dispatcher has delivered what was reaped, and the head tells how many that are.
pub record IsDelivered (l : Completions) (delivered : List Cqe) : Type 0 where
  pub reaped : l.reaped ≡ delivered
  pub head : l.head ≡ length delivered

-- The trace has all that went through the dispatcher's hands: what it pulled, what it delivered, and what the lanes of its workers carried.
pub record AreTies (kept : Kept) (pulled : Put) (reaped : List Cqe) (intake : Intake) (lanes : List WorkLanes) : Type 0 where
  pub tied : Tied kept.setup (now kept) pulled intake
  pub once : ClosesOnce kept intake
  pub delivered : IsDelivered (now kept).completions reaped
  pub carried : HaveCarried kept lanes

-- whether a call that was pulled waits for memory, to be begun again
abbrev pub awaits_memory : Intake → Bool
awaits_memory (intake.Waiting count) = true
awaits_memory other = false

-- The numbers of a turn are those of the events that it appended. If all of them are 0 and no call was begun and nothing closed, it appended none.
pub record Counts (old new : Kept) (turn : Turn) : Type 0 where
  pub calls : ℕ
  pub closes : ℕ
  pub adds : Adds old new (record { items = turn.popped; issues = turn.issued; finishes = turn.finished; reaps = turn.delivered; calls = calls; closes = closes })
  pub idle : turn.popped + turn.issued + turn.finished + turn.delivered + calls + closes ≡ 0
      → new.trace ≡ old.trace
