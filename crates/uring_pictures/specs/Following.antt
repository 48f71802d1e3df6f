-- Glue. What is kept of the requests of a trace as its lines come.
use Rattle.std.specs.Prelude.{◌≡◌, ℕ, ◌≤◌, Bool, false, List, ◌∷◌, length, take, Option}
use Rattle.std.specs.List.{AllByRecursion}
use Rattle.uring_entry.specs.Setup.{Setup}
use Rattle.uring_entry.specs.Layout.{Sqe}
use Rattle.uring_entry.specs.Requests.{Requests, has_ended}
use Rattle.uring_linux.specs.LinuxRequests.{LinuxRequests}
use Rattle.uring_core.specs.World.{requests_of}
use Rattle.uring_core.specs.Histories.{Event, History, history_of, world}
use Rattle.uring_core.specs.declared.answer.Answer.{Answer}
use Rattle.uring_core.specs.declared.step.Step.{Step}
use Rattle.uring_machine.specs.Machine.{Machine, Fits}
use Rattle.uring_text.specs.Lines.{Splits, with_last}
use Rattle.uring_text.specs.KeptLine.{KeptLine, kept_of}
use Rattle.uring_trace.specs.Exchanges.{Exchange, IsReadAs, lines_of, events_of}
use Rattle.uring_trace.specs.Explanations.{line_number}
use Rattle.uring_trace.specs.Sessions.{with_event}
use Rattle.uring_pictures.specs.Moments.{up_to}
use Rattle.uring_pictures.specs.declared.accepted.Accepted.{Accepted}
use Rattle.uring_pictures.specs.declared.moment.Moment.{Moment}

-- the machine fits a history, and entries and cuts are those of its requests
pub record Keeping (m : Machine) (kept : List Sqe) (ends : List ℕ) (h : History) : Type 0 where
  pub fits : Fits m h
  pub entries : kept ≡ (world m.core.setup h).requests.accepted
  pub cuts : ends ≡ (world m.core.setup h).requests.cuts

abbrev pub Keeps : Accepted → History → Type 0
Keeps a h = Keeping a.machine a.entries.items a.cuts.items h

-- the requests that a history has made on its machine
abbrev pub requests_at : Accepted → History → Requests
requests_at a h = (world a.machine.core.setup h).requests

-- the same, with how the drains stand
abbrev pub linux_at : Accepted → History → LinuxRequests
linux_at a h = requests_of (world a.machine.core.setup h)

-- whether its rules are Linux's
abbrev pub is_linux_at : Accepted → Bool
is_linux_at a = a.machine.core.setup.linux

-- These entries are the first of the requests, and none of the further ones has ended.
pub record HasAll (entries : List Sqe) (r : Requests) : Type 0 where
  pub front : entries ≡ take (length entries) r.accepted
  pub fewer : length entries ≤ length r.accepted
  pub unended : (n : ℕ) → length entries ≤ n → has_ended r n ≡ false

-- a step was made
pub record MakesStep (old new : Accepted) (s : Step) : Type 0 where
  pub answer : Answer
  pub same : new.machine.core.setup ≡ old.machine.core.setup
  pub keeps : (h : History) → Keeps old h → Keeps new ((s, answer) ∷ h)

-- a line was read: the step that it is was made, or it is none
pub record ReadsLine (old new : Accepted) (line : List ℕ) : Type 0 where
  pub event : Option Event
  pub read : IsReadAs line event
  pub same : new.machine.core.setup ≡ old.machine.core.setup
  pub keeps : (h : History) → Keeps old h → Keeps new (with_event event h)

-- The invariant, over the fields: these bytes have been taken in, and the steps of the lines up to that of `at` were made.
pub record Following (at : Option ℕ) (setup : Setup) (a : Accepted) (kept : KeptLine) (number : ℕ) (bytes : List ℕ) : Type 0 where
  pub lines : List (List ℕ)
  pub rest : List ℕ
  pub splits : Splits bytes lines rest
  pub keeps_line : kept ≡ kept_of rest
  pub numbered : number ≡ line_number (length lines)
  pub exchanges : List Exchange
  pub taken : lines_of exchanges ≡ up_to at lines
  pub each : AllByRecursion (λ x. IsReadAs x.line x.event) exchanges
  pub same : a.machine.core.setup ≡ setup
  pub keeps : Keeps a (history_of (events_of exchanges))

-- The same of bytes that have ended.
pub record Followed (at : Option ℕ) (setup : Setup) (a : Accepted) (bytes : List ℕ) : Type 0 where
  pub lines : List (List ℕ)
  pub rest : List ℕ
  pub splits : Splits bytes lines rest
  pub exchanges : List Exchange
  pub taken : lines_of exchanges ≡ up_to at (with_last lines rest)
  pub each : AllByRecursion (λ x. IsReadAs x.line x.event) exchanges
  pub same : a.machine.core.setup ≡ setup
  pub keeps : Keeps a (history_of (events_of exchanges))

abbrev pub Follows : Option ℕ → Setup → Moment → List ℕ → Type 0
Follows at setup m bytes = (at ≡ m.at) × Following at setup m.accepted m.line m.number bytes

abbrev pub HasFollowed : Option ℕ → Setup → Moment → List ℕ → Type 0
HasFollowed at setup m bytes = Followed at setup m.accepted bytes
