-- The history that shows an outcome, as it is written. Our own rule.
use Rattle.std.specs.Prelude.{◌≡◌, ℕ, true, false, List, ◌++◌, map, Option, Ok, codes}
use Rattle.std.specs.List.{AllByRecursion}
use Rattle.std.specs.Io.KnownBytes.{Appends}
use Rattle.uring_entry.specs.Setup.{Setup}
use Rattle.uring_entry.specs.Submission.{Published}
use Rattle.uring_core.specs.Histories.{history_of}
use Rattle.uring_ports.specs.declared.item.Item.{Item}
use Rattle.uring_ports.specs.Items.{all_published_as}
use Rattle.uring_text.specs.Lines.{joined}
use Rattle.uring_trace.specs.Exchanges.{Exchange, IsReadAs, answers_of, events_of}
use Rattle.uring_check.specs.Checks.{IsVerdict}
use Rattle.uring_check.specs.SetupLines.{setup_text}
use Rattle.uring_check.specs.declared.ends.Ends.TheVariants.{Given}
use Rattle.uring_check.specs.declared.verdict.Verdict.TheVariants as verdict
use Rattle.uring_outcomes.specs.CallOutcomes.{CallsOutcome, ComesTo}
use Rattle.uring_outcomes.specs.Outcomes.{Ending}
use Rattle.uring_play_text.specs.Inputs.{IsTold}
use Rattle.uring_litmus.specs.declared.form.Form.{Form}
use Rattle.uring_litmus.specs.Lines.{IsLineOf}

-- The text is a history of these calls that comes to this outcome: lines, of which each is a step, with the answers to them. The history is lawful, refuses no memory, publishes exactly the calls' items, takes them by calls of their lengths, and leaves nothing outstanding (`ComesTo`).
pub record IsHistoryOf (g : Setup) (calls : List (List Published)) (e : Ending) (text : List ℕ) : Type 0 where
  pub exchanges : List Exchange
  pub each : AllByRecursion (λ x. IsReadAs x.line x.event) exchanges
  pub is : text ≡ joined (answers_of true exchanges)
  pub outcome : CallsOutcome
  pub comes : ComesTo g calls (history_of (events_of exchanges)) outcome
  pub posted : outcome.posted ≡ e.posted
  pub files : outcome.files ≡ e.files

-- a remark on an outcome: its line
abbrev pub remark_text : List ℕ → List ℕ
remark_text line = codes "# outcome " ++ line ++ codes "\n"

-- what a remark on an outcome shows
abbrev pub whole : Form
whole = record { is_sorted = false; has_files = true }

-- a check of these bytes, as a recorded trace of this set-up, finds them lawful
abbrev pub IsAccepted : Setup → List ℕ → Type 0
IsAccepted g bytes = (report : List ℕ)
    × IsVerdict (record { setup = g; ends = Given }) false bytes report verdict.Lawful

-- What was written: the set-up, a remark on this outcome, and a history of the calls that these bytes tell which comes to it. A check accepts it.
pub record WritesHistory (g : Setup) (bytes : List ℕ) (e : Ending) (held_before held_after : Option (List ℕ)) : Type 0 where
  pub calls : List (List Item)
  pub told : IsTold g.sq bytes (Ok calls)
  pub line : List ℕ
  pub shown : IsLineOf whole e line
  pub text : List ℕ
  pub history : IsHistoryOf g (map all_published_as calls) e text
  pub accepted : IsAccepted g (setup_text g ++ (remark_text line ++ text))
  pub written : Appends held_before held_after (setup_text g ++ (remark_text line ++ text))
