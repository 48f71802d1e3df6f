-- Glue. What a session keeps of the lines that it took in.
use Rattle.std.specs.Prelude.{◌≡◌, ℕ, Bool, List, ◌∷◌, ◌++◌, Option, Some, None, Result, Ok, Err, IsTrue}
use Rattle.std.specs.Option.{option_to_list}
use Rattle.uring_trace.specs.declared.session.Session.{Session}
use Rattle.uring_text.specs.declared.trace_fault.TraceFault.{TraceFault}
use Rattle.uring_core.specs.Histories.{Event, History, history_of}
use Rattle.uring_machine.specs.Machine.{Machine, Fits}
use Rattle.uring_machine.specs.Settling.{AreUnrefused}
use Rattle.uring_text.specs.Lines.{Splits}
use Rattle.uring_trace.specs.Exchanges.{Exchange, Manner, Answers, IsReadAs, answer_text, lines_of, events_of}
use Rattle.uring_text.specs.KeptLine.{KeptLine, kept_of}
use Rattle.uring_trace.specs.Traces.{Writes}

-- a history with one event more, if there is one
abbrev pub with_event : Option Event → History → History
with_event None before = before
with_event (Some event) before = event ∷ before

-- the answer to a line is appended, and a step is made if the line is one; if memory is granted, it refuses none
pub record AppendsAnswer (granted : Type 0) (old new : Machine) (is_echo : Bool) (line before after : List ℕ) : Type 0 where
  pub event : Option Event
  pub read : IsReadAs line event
  pub appended : after ≡ before ++ answer_text is_echo line event
  pub same : new.core.setup ≡ old.core.setup
  pub fits : (h : History) → Fits old h → Fits new (with_event event h)
  pub unrefused : granted → (h : History) → Fits old h
      → AreUnrefused old.core.setup h (option_to_list event)

-- no answer is to refuse memory only where it is granted
abbrev pub IsGranted : Manner → Type 0 → Type 0
IsGranted manner granted = IsTrue manner.is_unrefused → granted

-- The session's invariant, over its fields: these bytes have been taken in, the text is the answers so far, and this is what is kept of the unfinished line.
pub record Holds (manner : Manner) (machine : Machine) (is_echo : Bool) (kept : KeptLine) (bytes text : List ℕ) : Type 0 where
  pub exchanges : List Exchange
  pub line : List ℕ
  pub answers : Answers manner exchanges text
  pub splits : Splits bytes (lines_of exchanges) line
  pub keeps : kept ≡ kept_of line
  pub same : machine.core.setup ≡ manner.setup
  pub echoes : is_echo ≡ manner.is_echo
  pub fits : Fits machine (history_of (events_of exchanges))

-- The session has taken in these bytes, and its answers so far are this text.
abbrev pub Has : Manner → Session → List ℕ → List ℕ → Type 0
Has manner s bytes text = Holds manner s.machine s.is_echo s.line bytes text

-- These bytes were to be taken in, and this text is what has been written: all answers so far, or what a fault allows.
abbrev pub TookIn : Manner → Result (Unit {0}) TraceFault → Session → List ℕ → List ℕ → Type 0
TookIn manner (Ok done) s bytes text = Has manner s bytes text
TookIn manner (Err e) s bytes text = Writes manner (Err e) bytes text
