-- What a moment keeps, byte by byte and line by line.
use Rattle.std.proofs.Common.{◌≡◌, ◌≢◌, ℕ, ◌+◌, ◌-◌, ◌^◌, min, true, false, List, [], ◌∷◌, ◌++◌, length, rules, Option, Some, None, refl, ◌∙◌, arith}
use Rattle.uring_pictures.proofs.Common.{Accepted, Followed, Following, Keeps, MakesStep, ReadsLine, Setup, does_count, up_to, history_of}
use Rattle.uring_core.specs.declared.step.Step.{Step}
use Rattle.uring_text.specs.KeptLine.{KeptLine, kept_of}
use Rattle.uring_text.proofs.Splits.{split_more, split_end, last_some}
use Rattle.uring_trace.specs.Spelling.{IsStep, IsBad}
use Rattle.uring_trace.specs.Exchanges.{Exchange, lines_of, events_of}
use Rattle.uring_text.specs.Lines.{with_last}
use Rattle.uring_trace.specs.Explanations.{line_number}
use Rattle.uring_trace.proofs.Sessions.{one_more}

-- What becomes of a line: a step, or none.

pub line_made : (old new : Accepted) (line : List ℕ) (s : Step) → IsStep line s → MakesStep old new s
    → ReadsLine old new line
line_made old new line s is made = record { event = Some (s, made.answer); read = is; same = made.same; keeps = made.keeps }

pub line_passed : (a : Accepted) (line : List ℕ) → IsBad line → ReadsLine a a line
line_passed a line none = record { event = None; read = none; same = refl; keeps = λ h k. k }

-- nothing yet
pub follows_none : (at : Option ℕ) (setup : Setup) (a : Accepted) (kept : KeptLine) → kept ≡ kept_of []
    → a.machine.core.setup ≡ setup → Keeps a [] → Following at setup a kept 1 []
follows_none at setup a kept empty same keeps = grind arith

-- a byte of a line
pub follows_byte : (at : Option ℕ) (setup : Setup) (a : Accepted) (kept kept' : KeptLine) (number : ℕ) (before : List ℕ) (b : ℕ)
    → b ≢ 10 → ((line : List ℕ) → kept ≡ kept_of line → kept' ≡ kept_of (line ++ b ∷ []))
    → Following at setup a kept number before → Following at setup a kept' number (before ++ b ∷ [])
follows_byte at setup a kept kept' number before b ne more f = grind (arith, (split_more before f.lines f.rest b ne f.splits))

-- the end of a line that counts
pub follows_line : (at : Option ℕ) (setup : Setup) (a a' : Accepted) (kept kept' : KeptLine) (number number' : ℕ) (before : List ℕ)
    → does_count at number ≡ true → kept' ≡ kept_of [] → number' ≡ min (number + 1) (2 ^ 64 - 1)
    → ((line : List ℕ) → kept ≡ kept_of line → ReadsLine a a' line)
    → Following at setup a kept number before
    → Following at setup a' kept' number' (before ++ 10 ∷ [])
follows_line at setup a a' kept kept' number number' before counts empty next reads f =
    let r = reads f.rest f.keeps_line in
    let more : List Exchange = record { line = f.rest; event = r.event } ∷ f.exchanges in
    let numbered : number' ≡ line_number (length (f.rest ∷ f.lines)) = omega (arith, f.numbered, next) in
    let taken : lines_of more ≡ up_to at (f.rest ∷ f.lines) = grind (arith, f.taken, f.numbered) in
    let keeps = rw one_more at (r.keeps (history_of (events_of f.exchanges)) f.keeps) in
    search (rules, more, (split_end before f.lines f.rest f.splits), empty, numbered, taken, r.read, f.each, (r.same ∙ f.same), keeps)

-- and of one that doesn't
pub follows_passed : (at : Option ℕ) (setup : Setup) (a : Accepted) (kept kept' : KeptLine) (number number' : ℕ) (before : List ℕ)
    → does_count at number ≡ false → kept' ≡ kept_of [] → number' ≡ min (number + 1) (2 ^ 64 - 1)
    → Following at setup a kept number before
    → Following at setup a kept' number' (before ++ 10 ∷ [])
follows_passed at setup a kept kept' number number' before counts empty next f =
    grind (arith, (split_end before f.lines f.rest f.splits), f.numbered, next)

-- the end of the input, after the end of a line
pub followed_none : (at : Option ℕ) (setup : Setup) (a : Accepted) (kept : KeptLine) (number : ℕ) (bytes : List ℕ)
    → ((line : List ℕ) → kept ≡ kept_of line → line ≡ [])
    → Following at setup a kept number bytes → Followed at setup a bytes
followed_none at setup a kept number bytes none f = grind arith

-- in a line that counts
pub followed_last : (at : Option ℕ) (setup : Setup) (a a' : Accepted) (kept : KeptLine) (number : ℕ) (bytes : List ℕ)
    → ((line : List ℕ) → kept ≡ kept_of line → line ≢ []) → does_count at number ≡ true
    → ((line : List ℕ) → kept ≡ kept_of line → ReadsLine a a' line)
    → Following at setup a kept number bytes → Followed at setup a' bytes
followed_last at setup a a' kept number bytes some counts reads f =
    let r = reads f.rest f.keeps_line in
    let more : List Exchange = record { line = f.rest; event = r.event } ∷ f.exchanges in
    let whole = last_some f.lines f.rest (some f.rest f.keeps_line) in
    let taken : lines_of more ≡ up_to at (with_last f.lines f.rest) = grind (arith, f.taken, f.numbered, whole) in
    let keeps = rw one_more at (r.keeps (history_of (events_of f.exchanges)) f.keeps) in
    search (rules, more, f.splits, taken, r.read, f.each, (r.same ∙ f.same), keeps)

-- and in one that doesn't
pub followed_passed : (at : Option ℕ) (setup : Setup) (a : Accepted) (kept : KeptLine) (number : ℕ) (bytes : List ℕ)
    → ((line : List ℕ) → kept ≡ kept_of line → line ≢ []) → does_count at number ≡ false
    → Following at setup a kept number bytes → Followed at setup a bytes
followed_passed at setup a kept number bytes some counts f = grind arith
