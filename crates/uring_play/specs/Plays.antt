-- Plays: what the threads make of calls, and what is written of it. Our own rule.
use Rattle.std.specs.Prelude.{◌≡◌, ℕ, ◌<◌, List, [], ◌++◌, length, Option, Result, Ok, Err}
use Rattle.std.specs.Io.KnownBytes.{Appends, Consumes, IsAtEnd}
use Rattle.std.specs.List.Sorted.{IsPermutation}
use Rattle.uring_entry.specs.Layout.{Cqe}
use Rattle.uring_entry.specs.Requests.{outstanding_in}
use Rattle.uring_entry.specs.Setup.{Setup}
use Rattle.uring_core.specs.CalledFor.{IsLawful}
use Rattle.uring_core.specs.Histories.{Event, world, history_of}
use Rattle.uring_entry.specs.Submission.{published_items}
use Rattle.uring_core.specs.World.{World}
use Rattle.uring_ports.specs.Items.{all_published_as}
use Rattle.uring_ports.specs.Ports.{items_of_calls}
use Rattle.uring_ports.specs.declared.item.Item.{Item}
use Rattle.uring_threads.specs.Calls.{lengths_of}
use Rattle.uring_threads.specs.Report.{Report}
use Rattle.uring_play_text.specs.Inputs.{IsTold}
use Rattle.uring_play_text.specs.Outputs.{lines_text, counts_text, IsInOrder, Writes}
use Rattle.uring_play.specs.Totals.{accepted_in, dropped_last}
use Rattle.uring_play_text.specs.declared.play_fault.PlayFault.{PlayFault}
use Rattle.uring_play_text.specs.declared.play_fault.PlayFault.TheVariants as fault

-- what a trace has made
abbrev pub made_by : Setup → List Event → World
made_by g trace = world g (history_of trace)

-- A play of these calls: a lawful trace that published exactly their items, in order, and took them in by calls of these lengths, by Linux's rules cut after each word that names no slot; of its requests none is outstanding, and these are all the completions that it posted, in the order in which it reaped them: none waits.
pub record IsPlay (g : Setup) (calls : List (List Item)) (trace : List Event) (completions : List Cqe) : Type 0 where
  pub lawful : IsLawful g (history_of trace)
  pub published : published_items (made_by g trace).submission
      ≡ all_published_as (items_of_calls calls)
  pub cut : (made_by g trace).submission.calls ≡ lengths_of g calls
  pub none_outstanding : outstanding_in (made_by g trace).requests ≡ 0
  pub reaped : (made_by g trace).completions.reaped ≡ completions
  pub none_waits : (made_by g trace).completions.posted ≡ completions

-- The text of a play: its completions, sorted, and its counts.
pub record IsTextOf (trace : List Event) (completions : List Cqe) (text : List ℕ) : Type 0 where
  pub sorted : List Cqe
  pub same : IsPermutation completions sorted
  pub in_order : IsInOrder sorted
  pub is : text ≡ lines_text sorted ++ counts_text (accepted_in trace) (dropped_last trace)

-- what is written of a play: its text, or its beginning, or nothing, by what is returned
abbrev pub WritesPlay : Result (Unit {0}) PlayFault → Option (List ℕ) → Option (List ℕ) → List Event
    → List Cqe → Type 0
WritesPlay answer before after trace completions =
    (text : List ℕ) × IsTextOf trace completions text × Writes answer before after text

-- These bytes tell calls, and this is the text of a play of them: of the report that the ends of this set-up left, with so many workers.
pub record IsPlayText (g : Setup) (workers : ℕ) (bytes text : List ℕ) : Type 0 where
  pub calls : List (List Item)
  pub told : IsTold g.sq bytes (Ok calls)
  pub report : Report
  pub setup : report.setup ≡ g
  pub many : report.workers ≡ workers
  pub completions : List Cqe
  pub play : IsPlay g calls report.trace completions
  pub written : IsTextOf report.trace completions text

-- What is written of bytes, by what is returned: all of the text, or its beginning after a write that failed, and after another fault nothing. A faulty line is the first of the bytes.
abbrev pub AnswersPlay : Setup → ℕ → List ℕ → Result (Unit {0}) PlayFault → List ℕ → Type 0
AnswersPlay g workers bytes (Ok done) written = IsPlayText g workers bytes written
AnswersPlay g workers bytes (Err fault.Write) written =
    (more : List ℕ) × (0 < length more) × IsPlayText g workers bytes (written ++ more)
AnswersPlay g workers bytes (Err (fault.Line k)) written =
    IsTold g.sq bytes (Err (fault.Line k)) × (written ≡ [])
AnswersPlay g workers bytes (Err (fault.Long k)) written =
    IsTold g.sq bytes (Err (fault.Long k)) × (written ≡ [])
AnswersPlay g workers bytes (Err fault.Read) written = written ≡ []
AnswersPlay g workers bytes (Err fault.Memory) written = written ≡ []

-- at the end the reader has nothing left, unless it failed or memory was refused
abbrev pub ReadsToEnd : Result (Unit {0}) PlayFault → Option (List ℕ) → Type 0
ReadsToEnd (Err fault.Read) left = Unit {0}
ReadsToEnd (Err fault.Memory) left = Unit {0}
ReadsToEnd answer left = IsAtEnd left

-- What was read and written by a play with so many workers: the reader had `left_before` left and has `left_after`, the writer held `held_before` and holds `held_after`.
pub record Plays (g : Setup) (workers : ℕ) (answer : Result (Unit {0}) PlayFault) (left_before left_after held_before held_after : Option (List ℕ)) : Type 0 where
  pub bytes : List ℕ
  pub consumed : Consumes left_before left_after bytes
  pub whole : ReadsToEnd answer left_after
  pub written : List ℕ
  pub appended : Appends held_before held_after written
  pub answers : AnswersPlay g workers bytes answer written
