-- What is answered to a question of all images that a crash after some line of a trace may leave. Our own rule.
use Rattle.std.specs.Prelude.{◌≡◌, ◌==◌, ℕ, ◌+◌, ◌-◌, ◌^◌, ◌<◌, ◌≤◌, min, true, false, List, [], ◌∷◌, ◌++◌, length, Option, codes, if◌then◌else◌}
use Rattle.std.specs.Fmt.{decimal}
use Rattle.std.specs.List.{AllByRecursion, list_any}
use Rattle.std.specs.Io.KnownBytes.{Consumes, Appends, IsAtEnd}
use Rattle.uring_entry.specs.Setup.{Setup}
use Rattle.uring_volume.specs.Events as volume
use Rattle.uring_volume.specs.Images.{IsImage}
use Rattle.uring_volume.specs.Listing.{AreTheImages}
use Rattle.uring_core.specs.Histories.{history_of}
use Rattle.uring_core.specs.CalledFor.{IsLawful}
use Rattle.uring_text.specs.Lines.{ended}
use Rattle.uring_text.specs.Tokens.{hex_or_dash}
use Rattle.uring_trace.specs.Exchanges.{Exchange, IsReadAs, lines_of, events_of}
use Rattle.uring_crash_machine.specs.Logs.{log_of}
use Rattle.uring_crash.specs.FirstLines.{AreFirstLines}
use Rattle.uring_crash.specs.Crashes.{is_bad, image_text}
use Rattle.uring_crash.specs.Keeping.{Holds, IsPlain}
use Rattle.uring_crash.specs.Searching.{IsWithout, AreMore}
use Rattle.uring_crash.specs.declared.crash_run.Asked.{Asked}
use Rattle.uring_crash.specs.declared.questions.Question.{Question}
use Rattle.uring_crash.specs.declared.questions.Question.TheVariants.{Count, All, Keeps}
use Rattle.uring_crash.specs.declared.questions.Reply.{Reply}
use Rattle.uring_crash.specs.declared.questions.Reply.TheVariants.{Answered, NotKept, TooMany, BadLine}

-- the line that tells how many images there are, counted up to 2^64 - 1
abbrev pub count_text : ℕ → List ℕ
count_text n =
    codes "images " ++ decimal n ++ (if n == 2 ^ 64 - 1 then codes " or more\n" else codes "\n")

-- the lines of some images
abbrev pub image_lines : List (List ℕ) → List ℕ
image_lines [] = []
image_lines (image ∷ more) = image_text image ++ image_lines more

-- the same, and how many they are
abbrev pub images_text : List (List ℕ) → List ℕ
images_text images = image_lines images ++ count_text (length images)

-- the line of bytes that each image has at an offset
abbrev pub kept_text : ℕ → List ℕ → List ℕ
kept_text off bytes = ended (codes "kept at " ++ decimal off ++ codes ": " ++ hex_or_dash bytes)

-- the text says that not each image has the bytes, and has one that hasn't, with words on its writes
pub record TellsWithout (off : ℕ) (bytes : List ℕ) (u : ℕ) (h : volume.History) (text : List ℕ) : Type 0 where
  pub image : List ℕ
  pub words : List ℕ
  pub without : IsWithout off bytes u h image
  pub written : text ≡ codes "not " ++ kept_text off bytes ++ image_text image ++ words

-- the reply to whether each image has some bytes at an offset, with its text. Where it is plain, there are never too many
abbrev pub AreKept : (off : ℕ) (bytes : List ℕ) (most u : ℕ) → volume.History → Reply → List ℕ → Type 0
AreKept off bytes most u h Answered text =
    ((now : List ℕ) → IsImage u [] h now → Holds off bytes now) × (text ≡ kept_text off bytes)
AreKept off bytes most u h NotKept text = TellsWithout off bytes u h text
AreKept off bytes most u h TooMany text = AreMore most u h × (text ≡ [])
    × (off + length bytes < 2 ^ 64 → IsPlain h off bytes → ⊥)
AreKept off bytes most u h BadLine text = ⊥

-- the reply to which images there are
abbrev pub AreListed : (most u : ℕ) → volume.History → Reply → List ℕ → Type 0
AreListed most u h Answered text = (images : List (List ℕ)) × AreTheImages u [] h images
    × (length images ≤ most) × (text ≡ images_text images)
AreListed most u h TooMany text = AreMore most u h × (text ≡ [])
AreListed most u h reply text = ⊥

-- the reply to how many images there are
abbrev pub AreCounted : (u : ℕ) → volume.History → Reply → List ℕ → Type 0
AreCounted u h Answered text = (all : List (List ℕ)) × AreTheImages u [] h all
    × (text ≡ count_text (min (length all) (2 ^ 64 - 1)))
AreCounted u h reply text = ⊥

-- the reply to a question of the images of a file to which this has happened
abbrev pub Replies : Question → (u : ℕ) → volume.History → Reply → List ℕ → Type 0
Replies Count u h reply text = AreCounted u h reply text
Replies (All most) u h reply text = AreListed most u h reply text
Replies (Keeps off bytes most) u h reply text = AreKept off bytes.items most u h reply text

-- The lines that count of what was read are steps, each with an answer that is called for by the steps before it, remarks and bad lines; the reply to the question is of the images that a crash after them may leave. With a bad line it says so, and nothing is written.
pub record Asks (question : Question) (asked : Asked) (setup : Setup) (reply : Reply) (left_before left_after held_before held_after : Option (List ℕ)) : Type 0 where
  pub bytes : List ℕ
  pub consumed : Consumes left_before left_after bytes
  pub at_end : IsAtEnd left_after
  pub exchanges : List Exchange
  pub each : AllByRecursion (λ x. IsReadAs x.line x.event) exchanges
  pub first : AreFirstLines asked.lines bytes (lines_of exchanges)
  pub lawful : IsLawful setup (history_of (events_of exchanges))
  pub text : List ℕ
  pub written : Appends held_before held_after text
  pub replied : list_any is_bad exchanges ≡ false
      → Replies question asked.unit (log_of asked.unit setup asked.fd (history_of (events_of exchanges))).volume.history reply text
  pub bad : list_any is_bad exchanges ≡ true → (reply ≡ BadLine) × (text ≡ [])
