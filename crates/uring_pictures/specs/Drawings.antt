-- What is drawn of the lines that were read.
use Rattle.std.specs.Prelude.{◌≡◌, ℕ, Bool, List, Option}
use Rattle.std.specs.List.{AllByRecursion}
use Rattle.std.specs.Io.KnownBytes.{Consumes, Appends, IsAtEnd}
use Rattle.uring_entry.specs.Setup.{Setup}
use Rattle.uring_core.specs.World.{requests_of}
use Rattle.uring_core.specs.CalledFor.{IsLawful}
use Rattle.uring_core.specs.Histories.{world, history_of}
use Rattle.uring_text.specs.Lines.{Splits, with_last}
use Rattle.uring_trace.specs.Exchanges.{Exchange, IsReadAs, lines_of, events_of}
use Rattle.uring_trace.specs.Explanations.{ExplainsWhole}
use Rattle.uring_pictures.specs.Graphs.{graph_of}
use Rattle.uring_pictures.specs.Moments.{up_to}

-- All was read: the reader had something left before and is at its end, and each line is a step with an answer that is called for, a question, a remark or a bad line, which is noted.
pub record Reads (setup : Setup) (bad : Bool) (left_before left_after notes_before notes_after : Option (List ℕ)) : Type 0 where
  pub bytes : List ℕ
  pub told : List ℕ
  pub notes : List ℕ
  pub lines : ExplainsWhole setup bad bytes told notes
  pub consumed : Consumes left_before left_after bytes
  pub at_end : IsAtEnd left_after
  pub noted : Appends notes_before notes_after notes

-- The same. Of the lines up to that of `at` each is a step, with an answer that is called for by the steps before it, or none; and the graph of the requests that these steps have made was written.
pub record Draws (at : Option ℕ) (setup : Setup) (bad : Bool) (left_before left_after held_before held_after notes_before notes_after : Option (List ℕ)) : Type 0 where
  pub bytes : List ℕ
  pub told : List ℕ
  pub notes : List ℕ
  pub explained : ExplainsWhole setup bad bytes told notes
  pub consumed : Consumes left_before left_after bytes
  pub at_end : IsAtEnd left_after
  pub noted : Appends notes_before notes_after notes
  pub lines : List (List ℕ)
  pub rest : List ℕ
  pub splits : Splits bytes lines rest
  pub exchanges : List Exchange
  pub first : lines_of exchanges ≡ up_to at (with_last lines rest)
  pub each : AllByRecursion (λ x. IsReadAs x.line x.event) exchanges
  pub lawful : IsLawful setup (history_of (events_of exchanges))
  pub drawn : Appends held_before held_after (graph_of setup.linux (requests_of (world setup (history_of (events_of exchanges)))))
