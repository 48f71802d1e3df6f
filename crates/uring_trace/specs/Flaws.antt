-- What is wrong with a line that isn't one of a language of steps. The languages and the words are our own rule.
use Rattle.std.specs.Prelude.{ℕ, ◌==◌, ◌||◌, nat_lt, List, [], ◌∷◌, length, Option, Some, None, if◌then◌else◌, codes}
use Rattle.std.specs.Str.{bytes_eq}
use Rattle.std.specs.Option.{option_map}
use Rattle.uring_text.specs.Tokens.{tokens_of}
use Rattle.uring_text.specs.Places.{is_of_kind}
use Rattle.uring_text.specs.Reaches.{reach_at, further, named_reach, entry_reach}
use Rattle.uring_text.specs.Flaws.{flaw_text}
use Rattle.uring_text.specs.declared.place.TokenKind.{TokenKind}
use Rattle.uring_text.specs.declared.place.TokenKind.TheVariants as kind
use Rattle.uring_text.specs.declared.place.Place.{Place}
use Rattle.uring_text.specs.declared.place.Place.TheVariants as place
use Rattle.uring_text.specs.declared.reach.Reach.{Reach}
use Rattle.uring_trace.specs.Spelling.{kinds_of}
use Rattle.uring_trace.specs.Reading.{step_named}
use Rattle.uring_trace.specs.declared.flaws.Language.{Language}
use Rattle.uring_trace.specs.declared.flaws.Language.TheVariants as language

-- how far the tokens after `fill` fit
abbrev pub fill_reach : List (List ℕ) → Reach
fill_reach [] = reach_at (place.Token kind.Slot)
fill_reach (slot ∷ tokens) =
    if is_of_kind kind.Slot slot then further (entry_reach tokens) else reach_at (place.Token kind.Slot)

-- how far the tokens of a step fit
abbrev pub step_reach : List (List ℕ) → Reach
step_reach [] = reach_at place.Step
step_reach (name ∷ tokens) =
    if bytes_eq name (codes "fill") then further (fill_reach tokens) else
    named_reach place.Step (option_map kinds_of (step_named name)) tokens

-- the kinds of the tokens after the name of what is to be shown
abbrev pub shown_kinds : List ℕ → Option (List TokenKind)
shown_kinds name =
    if bytes_eq name (codes "counts") || bytes_eq name (codes "sizes") || bytes_eq name (codes "overflow") || bytes_eq name (codes "requests") then Some [] else
    if bytes_eq name (codes "why") then Some (kind.Number ∷ []) else
    if bytes_eq name (codes "file") then Some (kind.File ∷ []) else None

-- how far the tokens after `show` fit
abbrev pub shown_reach : List (List ℕ) → Reach
shown_reach [] = reach_at place.Shown
shown_reach (name ∷ tokens) = named_reach place.Shown (shown_kinds name) tokens

-- how far the tokens of a step or of a question fit
abbrev pub asked_reach : List (List ℕ) → Reach
asked_reach [] = reach_at place.Step
asked_reach (name ∷ tokens) =
    if bytes_eq name (codes "show") then further (shown_reach tokens) else step_reach (name ∷ tokens)

-- what may stand in a recorded trace, where this may stand in a trace: an answer follows each step
abbrev pub with_answer : Place → Place
with_answer place.End = place.Answer
with_answer place.NoAnswer = place.Answer
with_answer p = p

-- how far tokens fit a line of a language
abbrev pub line_reach : Language → List (List ℕ) → Reach
line_reach language.Steps tokens = step_reach tokens
line_reach language.Questions tokens = asked_reach tokens
line_reach language.Records tokens =
    record { tokens = (step_reach tokens).tokens; wanted = with_answer (step_reach tokens).wanted }

-- what is wrong with a line
abbrev pub line_flaw : Language → List ℕ → List ℕ
line_flaw language line =
    if nat_lt 300 (length line) then codes "more than 300 bytes" else
    if length line == 0 then codes "an empty line" else
    flaw_text line (tokens_of line) (line_reach language (tokens_of line))
