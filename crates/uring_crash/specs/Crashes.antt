-- What a crash after some line of a trace leaves of a file. Our own rule.
use Rattle.std.specs.Prelude.{◌≡◌, ℕ, Bool, true, false, not, ◌&&◌, List, [], ◌++◌, length, Option, is_none, codes}
use Rattle.std.specs.Fmt.{decimal}
use Rattle.std.specs.List.{AllByRecursion, list_any}
use Rattle.std.specs.Io.KnownBytes.{Consumes, Appends, IsAtEnd}
use Rattle.uring_entry.specs.Setup.{Setup}
use Rattle.uring_volume.specs.Images.{IsImage}
use Rattle.uring_core.specs.Histories.{history_of}
use Rattle.uring_core.specs.CalledFor.{IsLawful}
use Rattle.uring_text.specs.Lines.{ended}
use Rattle.uring_text.specs.Remarks.{is_remark}
use Rattle.uring_text.specs.Tokens.{hex_or_dash}
use Rattle.uring_trace.specs.Exchanges.{Exchange, IsReadAs, lines_of, events_of}
use Rattle.uring_crash_machine.specs.Logs.{log_of}
use Rattle.uring_crash.specs.FirstLines.{AreFirstLines}
use Rattle.uring_crash.specs.declared.crash_run.Asked.{Asked}

-- whether a line is bad: it is no step, and no remark
abbrev pub is_bad : Exchange → Bool
is_bad x = is_none x.event && not (is_remark x.line)

-- the line of an image: its length, and its bytes
abbrev pub image_text : List ℕ → List ℕ
image_text image =
    ended (codes "len " ++ decimal (length image) ++ codes " data " ++ hex_or_dash image)

-- The lines that count of what was read are steps, each with an answer that is called for by the steps before it, remarks and bad lines; an image is written that a crash after them may leave of the file, with words on its writes. With a bad line nothing is.
pub record Leaves (asked : Asked) (setup : Setup) (bad : Bool) (left_before left_after held_before held_after : Option (List ℕ)) : Type 0 where
  pub bytes : List ℕ
  pub consumed : Consumes left_before left_after bytes
  pub at_end : IsAtEnd left_after
  pub exchanges : List Exchange
  pub each : AllByRecursion (λ x. IsReadAs x.line x.event) exchanges
  pub first : AreFirstLines asked.lines bytes (lines_of exchanges)
  pub lawful : IsLawful setup (history_of (events_of exchanges))
  pub some_bad : bad ≡ list_any is_bad exchanges
  pub image : List ℕ
  pub words : List ℕ
  pub possible : bad ≡ false
      → IsImage asked.unit [] (log_of asked.unit setup asked.fd (history_of (events_of exchanges))).volume.history image
  pub written : bad ≡ false → Appends held_before held_after (image_text image ++ words)
  pub unwritten : bad ≡ true → Appends held_before held_after []
