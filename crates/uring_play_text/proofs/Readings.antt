-- What a reading takes in, byte by byte.
use Rattle.std.proofs.Common.{◌≡◌, ◌≢◌, ℕ, List, [], ◌∷◌, ◌++◌, Option, Some, None, Result, Ok, Err, refl, subst, reverse}
use Rattle.uring_play_text.proofs.Common.{Consumes-nil, Gathers, HasLines, Holds, IfSome, IsEarly, IsGiven, IsReturned, Item, MatchOption, PlayFault, ReadsAll, ReadsCalls, ReadsIn, Returns, length, reverse-append, ◌<◌, ◌≤◌}
use Rattle.std.specs.Io.KnownBytes.{IsAtEnd}
use Rattle.std.specs.Borrow.{Bor}
use Rattle.std.specs.Result.{IsErrAnd}
use Rattle.std.specs.declared.vec.Vec.{Vec}
use Rattle.std.specs.declared.alloc.Global.{Global}
use Rattle.uring_entry.specs.Setup.{Setup}
use Rattle.uring_text.specs.KeptLine.{KeptLine, kept_of}
use Rattle.uring_text.proofs.Splits.{split_more, split_end, last_some}
use Rattle.uring_play_text.specs.declared.play_fault.PlayFault.TheVariants as fault
use Rattle.uring_play_text.specs.declared.script.Script.{Script}
use Rattle.uring_play_text.specs.declared.reading.Reading.{Reading}

-- what is given of a kept line
pub given_of : (kept : KeptLine) (given : Option (Bor (List ℕ)))
    → ((line : List ℕ) → kept ≡ kept_of line → MatchOption given (300 < length line) (λ bytes. bytes.now ≡ line))
    → IfSome given (λ bytes. length bytes.now ≤ 300) → (line : List ℕ) → kept ≡ kept_of line
    → IsGiven line given
given_of kept None is short line e = is line e
given_of kept (Some bytes) is short line e =
    let same : bytes.now ≡ line = is line e in
    (same, subst (λ (l : List ℕ). length l ≤ 300) same short)

-- what a script makes of one line more
abbrev pub Takes : Option (Bor (List ℕ)) → Script → Script → Type 0
Takes given old new = (size : ℕ) (lines : List (List ℕ)) (text : List ℕ) → IsGiven text given
    → Gathers size lines old → Gathers size (lines ++ text ∷ []) new

-- the end of a line
pub took_line : (size : ℕ) (kept : KeptLine) (old new : Script) (given : Option (Bor (List ℕ))) (before : List ℕ)
    → ((line : List ℕ) → kept ≡ kept_of line → IsGiven line given) → Takes given old new
    → Holds size kept old before → Holds size (kept_of []) new (before ++ 10 ∷ [])
took_line size kept old new given before is takes h = record {
  ended = h.line ∷ h.ended;
  line = [];
  splits = split_end before h.ended h.line h.splits;
  keeps = refl;
  gathers = rw (reverse-append (h.line ∷ []) h.ended) (takes size (reverse h.ended) h.line (is h.line h.keeps) h.gathers);
}

-- a byte of the line
pub took_byte : (size : ℕ) (kept kept' : KeptLine) (script : Script) (before : List ℕ) (b : ℕ) → b ≢ 10
    → ((line : List ℕ) → kept ≡ kept_of line → kept' ≡ kept_of (line ++ b ∷ []))
    → Holds size kept script before → Holds size kept' script (before ++ b ∷ [])
took_byte size kept kept' script before b ne is h = record {
  ended = h.ended;
  line = h.line ++ b ∷ [];
  splits = split_more before h.ended h.line b ne h.splits;
  keeps = is h.line h.keeps;
  gathers = h.gathers;
}

-- ---- the end of the input

abbrev Answer : Type 0
Answer = Result (Vec (Vec Item Global) Global) PlayFault

returned : (size : ℕ) (bytes : List ℕ) (lines : List (List ℕ)) (answer : Answer)
    → HasLines bytes lines → Returns size lines answer → IsReturned size bytes answer
returned size bytes lines (Err fault.Read) are h = tt
returned size bytes lines (Err fault.Memory) are h = tt
returned size bytes lines (Err fault.Write) are h = absurd h
returned size bytes lines _ are h = (lines, are, h)

-- a last line that has begun
pub ended_last : (size : ℕ) (kept : KeptLine) (old new : Script) (given : Option (Bor (List ℕ))) (answer : Answer) (bytes : List ℕ)
    → ((line : List ℕ) → kept ≡ kept_of line → IsGiven line given)
    → ((line : List ℕ) → kept ≡ kept_of line → line ≢ []) → Takes given old new
    → ((size : ℕ) (lines : List (List ℕ)) → Gathers size lines new → Returns size lines answer)
    → Holds size kept old bytes → IsReturned size bytes answer
ended_last size kept old new given answer bytes is some takes ends h =
    returned size bytes (reverse (h.line ∷ h.ended)) answer (record { ended = h.ended; rest = h.line; splits = h.splits; all = rw (last_some h.ended h.line (some h.line h.keeps)) refl })
    (ends size (reverse (h.line ∷ h.ended)) (rw (reverse-append (h.line ∷ []) h.ended) (takes size (reverse h.ended) h.line (is h.line h.keeps) h.gathers)))

-- no last line has begun
pub ended_none : (size : ℕ) (kept : KeptLine) (script : Script) (answer : Answer) (bytes : List ℕ)
    → ((line : List ℕ) → kept ≡ kept_of line → line ≡ [])
    → ((size : ℕ) (lines : List (List ℕ)) → Gathers size lines script → Returns size lines answer)
    → Holds size kept script bytes → IsReturned size bytes answer
ended_none size kept script answer bytes none ends h =
    returned size bytes (reverse h.ended) answer (record { ended = h.ended; rest = h.line; splits = h.splits; all = rw (none h.line h.keeps) refl }) (ends size (reverse h.ended) h.gathers)

-- ---- all calls

pub ends_at : (answer : Answer) (size : ℕ) (bytes : List ℕ) (left : Option (List ℕ))
    → IsReturned size bytes answer → IsAtEnd left → ReadsAll answer left
ends_at (Err fault.Read) size bytes left h end = tt
ends_at (Err fault.Memory) size bytes left h end = tt
ends_at (Err fault.Write) size bytes left h end = absurd h
ends_at _ size bytes left h end = end

-- a fault that comes early says nothing of lines, nor of what is left
early_said : (size : ℕ) (bytes : List ℕ) (f : PlayFault) (left : Option (List ℕ)) → IsEarly f
    → IsReturned size bytes (Err f) × ReadsAll (Err f) left
early_said size bytes fault.Read left h = (tt, tt)
early_said size bytes fault.Memory left h = (tt, tt)
early_said size bytes _ left h = absurd h

pub stopped : (setup : Setup) (answer : Answer) (f : PlayFault) (a r : Option (List ℕ)) (s : Reading)
    → answer ≡ Err f → ReadsIn setup.sq (Err f) a r s → ReadsCalls setup answer a r
stopped setup answer f a r s is so =
    let said = early_said setup.sq so.0 f r so.2 in
    rw is (record { bytes = so.0; consumed = so.1; returned = said.0; whole = said.1 })

-- nothing was read
pub unread : (setup : Setup) (answer : Answer) (a : Option (List ℕ)) → IsErrAnd answer (λ f. f ≡ fault.Memory)
    → ReadsCalls setup answer a a
unread setup (Ok calls) a h = absurd h
unread setup (Err f) a h = rw h (record { bytes = []; consumed = Consumes-nil a; returned = tt; whole = tt })
