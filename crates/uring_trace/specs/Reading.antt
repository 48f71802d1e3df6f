-- Glue. What the tokens of a line say, read from the left: what the readers inside answer. What a line means is said in Spelling, and a proof joins the two.
use Rattle.std.specs.Prelude.{◌≡◌, ℕ, ◌^◌, ◌==◌, List, [], ◌∷◌, length, Option, Some, None, if◌then◌else◌, codes, find}
use Rattle.std.specs.Option.{option_map}
use Rattle.std.specs.Bool.{MatchBool}
use Rattle.std.specs.Str.{bytes_eq}
use Rattle.uring_entry.specs.Layout.{Sqe}
use Rattle.uring_core.specs.declared.step.Step.{Step}
use Rattle.uring_core.specs.declared.step.Step.TheVariants as step
use Rattle.uring_text.specs.Forms.{Form, IsEntryOf}
use Rattle.uring_text.specs.Reading.{◌>>=◌, number_of, form_of}
use Rattle.uring_trace.specs.Spelling.{name_of, steps, kinds_of}

-- the step of a slot and of what a reader answers of an entry's tokens
abbrev pub ReadsFill : Option Step → Option ℕ → Option Form → Type 0
ReadsFill read (Some slot) (Some f) =
    (entry : Sqe) × (read ≡ Some (step.Fill slot entry)) × IsEntryOf f entry
ReadsFill read _ _ = read ≡ None

-- the step of this name, a number in it 0
unfoldable pub step_named : List ℕ → Option Step
step_named name = find (λ s. bytes_eq name (name_of s)) steps

-- a step of which nothing is said but its name
abbrev pub alone : Step → Option Step
alone s = if length (kinds_of s) == 0 then Some s else None

-- a step with the number that a token says
abbrev pub numbered : List ℕ → Step → Option Step
numbered token (step.Index n) = option_map (λ n. step.Index n) (number_of (2 ^ 32) token)
numbered token (step.Begin n) = option_map (λ n. step.Begin n) (number_of (2 ^ 32) token)
numbered token (step.Issue n) = option_map (λ n. step.Issue n) (number_of (2 ^ 64) token)
numbered token (step.Finish n) = option_map (λ n. step.Finish n) (number_of (2 ^ 64) token)
numbered token s = None

-- the step of one token
abbrev pub step_of_one : List ℕ → Option Step
step_of_one name = step_named name >>= alone

-- the step of a name and a number
abbrev pub step_of_two : List ℕ → List ℕ → Option Step
step_of_two name token = step_named name >>= numbered token

-- What a reader answers of a line's tokens.
abbrev pub ReadsStep : Option Step → List (List ℕ) → Type 0
ReadsStep read [] = read ≡ None
ReadsStep read (name ∷ []) = read ≡ step_of_one name
ReadsStep read (name ∷ token ∷ rest) =
    MatchBool (bytes_eq name (codes "fill")) (ReadsFill read (number_of (2 ^ 32) token) (form_of rest)) (read ≡ (if length rest == 0 then step_of_two name token else None))
