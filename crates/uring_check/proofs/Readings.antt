-- What a reading takes in, byte by byte, and what is returned and written of it.
use Rattle.std.proofs.Common.{◌≡◌, ◌≢◌, ℕ, Bool, List, [], ◌∷◌, ◌++◌, Option, Result, Ok, Err, sym, ap, arith}
use Rattle.std.specs.Io.KnownBytes.{Consumes, Appends}
use Rattle.std.proofs.KnownBytes.{Appends-nil}
use Rattle.uring_check.proofs.Common.{Checker, Has, Holds, IsTold, Looks, ReadsIn, Rules, Verdict}
use Rattle.uring_text.specs.KeptLine.{KeptLine, kept_of}
use Rattle.uring_text.specs.Lines.{with_last}
use Rattle.uring_text.specs.Writing.{WritesText}
use Rattle.uring_text.specs.declared.trace_fault.TraceFault.{TraceFault}
use Rattle.uring_text.specs.declared.trace_fault.TraceFault.TheVariants as fault
use Rattle.uring_text.proofs.Splits.{split_more, split_end, last_some}
use Rattle.uring_check.specs.Checks.{AreLinesOf, IsVerdict, IsChecked}
use Rattle.uring_check.specs.declared.reading.Reading.{Reading}
use Rattle.uring_check.proofs.LawfulTexts.{said}

-- what a checker makes of one line more
abbrev pub Takes : KeptLine → Checker → Checker → Type 0
Takes kept old new = (g : Rules) (all : Bool) (lines : List (List ℕ)) (text : List ℕ)
    → kept ≡ kept_of text → Looks g all lines old → Looks g all (text ∷ lines) new

-- the end of a line
pub took_line : (g : Rules) (all : Bool) (kept : KeptLine) (old new : Checker) (before : List ℕ)
    → Takes kept old new → Holds g all kept old before
    → Holds g all (kept_of []) new (before ++ 10 ∷ [])
took_line g all kept old new before takes h =
    grind (arith, (split_end before h.whole h.line h.splits), (takes g all h.whole h.line h.keeps h.looks))

-- one byte more of a line
pub kept_byte : (g : Rules) (all : Bool) (kept kept' : KeptLine) (c : Checker) (before : List ℕ) (b : ℕ)
    → b ≢ 10 → ((line : List ℕ) → kept ≡ kept_of line → kept' ≡ kept_of (line ++ b ∷ []))
    → Holds g all kept c before → Holds g all kept' c (before ++ b ∷ [])
kept_byte g all kept kept' c before b ne more h = grind (arith, (split_more before h.whole h.line b ne h.splits))

-- ---- the end of the input

told_verdict : (g : Rules) (all : Bool) (lines : List (List ℕ)) (bytes text : List ℕ) (v : Verdict)
    → AreLinesOf bytes lines → IsTold g all lines v text → IsVerdict g all bytes text v
told_verdict g all lines bytes text v are t = grind (arith, said)

-- what a checker's end returns
abbrev pub Ends : Checker → Verdict → List ℕ → Type 0
Ends c v text = (g : Rules) (all : Bool) (lines : List (List ℕ)) → Looks g all lines c
    → IsTold g all lines v text

-- a last line that has begun
pub ended_last : (g : Rules) (all : Bool) (kept : KeptLine) (old new : Checker) (bytes text : List ℕ) (v : Verdict)
    → ((line : List ℕ) → kept ≡ kept_of line → line ≢ []) → Takes kept old new → Ends new v text
    → Holds g all kept old bytes → IsVerdict g all bytes text v
ended_last g all kept old new bytes text v some takes ends h =
    told_verdict g all (h.line ∷ h.whole) bytes text v (h.whole, h.line, h.splits, sym (last_some h.whole h.line (some h.line h.keeps)))
    (ends g all (h.line ∷ h.whole) (takes g all h.whole h.line h.keeps h.looks))

-- no last line has begun
pub ended_none : (g : Rules) (all : Bool) (kept : KeptLine) (c : Checker) (bytes text : List ℕ) (v : Verdict)
    → ((line : List ℕ) → kept ≡ kept_of line → line ≡ []) → Ends c v text → Holds g all kept c bytes
    → IsVerdict g all bytes text v
ended_none g all kept c bytes text v none ends h =
    told_verdict g all h.whole bytes text v (h.whole, h.line, h.splits, sym (ap (λ (l : List ℕ). with_last h.whole l) (none h.line h.keeps))) (ends g all h.whole h.looks)

-- ---- the reader

abbrev Known : Type 0
Known = Option (List ℕ)

-- What was read and taken in so far: the reader had a left and has r.
abbrev pub So : Rules → Bool → Known → Known → Reading → Type 0
So g all a r s = (bytes : List ℕ) × Consumes a r bytes × Has g all s bytes

-- ---- the whole check

abbrev Answer : Type 0
Answer = Result Verdict TraceFault

-- not all was read
pub part_checked : (g : Rules) (all : Bool) (answer : Answer) (e : TraceFault) (a r d : Known) (s : Reading)
    → answer ≡ Err e → ReadsIn g all (Err e) a r s → IsChecked g all answer a r d d
part_checked g all answer e a r d s is so = grind (arith, (Appends-nil d))

-- all was read, and memory was refused
pub unsaid_checked : (g : Rules) (all : Bool) (answer : Answer) (a r d : Known) (s : Reading)
    → answer ≡ Err fault.Memory → ReadsIn g all (Ok tt) a r s → IsChecked g all answer a r d d
unsaid_checked g all answer a r d s is so = grind (arith, (Appends-nil d))

-- the report was written in part
pub cut_checked : (g : Rules) (all : Bool) (answer : Answer) (e : TraceFault) (a r d d' : Known) (s : Reading) (v : Verdict) (text : List ℕ)
    → answer ≡ Err e → ReadsIn g all (Ok tt) a r s
    → ((g : Rules) (all : Bool) (bytes : List ℕ) → Has g all s bytes → IsVerdict g all bytes text v)
    → (written : List ℕ) × Appends d d' written × WritesText (Err e) text written
    → IsChecked g all answer a r d d'
cut_checked g all answer e a r d d' s v text is so ends w =
    let some = w.2 in
    let verdict_is : IsVerdict g all so.0 (w.0 ++ some.1) v = rw some.3 at (ends g all so.0 so.2.0) in
    rw (is, some.0) (record { bytes = so.0; text = w.0; consumed = so.1; appended = w.1; written = (v, some.1, some.2, verdict_is); whole = so.2.1 })

-- the report was written
pub whole_checked : (g : Rules) (all : Bool) (a r d d' : Known) (s : Reading) (v : Verdict) (text : List ℕ)
    → ReadsIn g all (Ok tt) a r s
    → ((g : Rules) (all : Bool) (bytes : List ℕ) → Has g all s bytes → IsVerdict g all bytes text v)
    → (written : List ℕ) × Appends d d' written × (written ≡ text) → IsChecked g all (Ok v) a r d d'
whole_checked g all a r d d' s v text so ends w = grind (arith, (ends g all so.0 so.2.0))
