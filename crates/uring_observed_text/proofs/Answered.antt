-- What is told of lines, by what the search came to.
use Rattle.std.proofs.Common.{◌≡◌, ◌++◌, ◌+◌, ℕ, List, [], ◌∷◌, length, sym, ap, subst, ◌∙◌, append_assoc, append-nil, arith}
use Rattle.uring_observed_text.proofs.Common.{Begins, Event, Fills, HasNoFilling, History, IsAnswered, IsFar, IsFaulty, IsFilling, IsLawfulApart, IsToldBy, IsToldOf, Names, Reads, SaysFirst, Setup, ShowsNever, Tells, TellsFar, codes, decimal, history_of, lines_in, reverse, reverse-reverse, seen_in, setup_text, ◌==◌}
use Rattle.std.proofs.lemmas.List.Splits.{length-slice_split}
use Rattle.uring_text.specs.Lines.{joined}
use Rattle.uring_check.specs.declared.setup_line.Said.{Said}
use Rattle.uring_reconstruct.specs.Found.{HasNone, IsFound}
use Rattle.uring_reconstruct.specs.Parts.{IsReach}
use Rattle.uring_reconstruct.specs.declared.search.Filled.{Filled}
use Rattle.uring_reconstruct.proofs.Begun.{begins_all}
use Rattle.uring_observed_text.specs.declared.filling.Told.{Told}
use Rattle.uring_observed_text.specs.declared.filling.Verdict.TheVariants as verdict
use Rattle.uring_observed_text.proofs.OneLine.{visible_is}

-- a history that shows what was read fills the lines
pub fills_by : (g : Setup) (lines : List (List ℕ)) (seen : List Event) (h : History)
    → Reads g lines (history_of seen) → IsFilling g seen h → Fills g lines h
fills_by g lines seen h r f = grind (arith, visible_is)

-- if there is none that shows what was read, the lines have none
pub none_by : (g : Setup) (lines : List (List ℕ)) (seen : List Event) (place : ℕ)
    → Reads g lines (history_of seen) → HasNone g seen place → HasNoFilling g lines
none_by g lines seen place r none = λ h f.
    let shows : history_of (seen_in h) ≡ history_of seen = visible_is h ∙ r.only h f.filling.lawful f.shown in
    let same : seen_in h ≡ seen = sym (reverse-reverse (seen_in h)) ∙ ap reverse shows ∙ reverse-reverse seen in
    none.none h (subst (λ xs. IsFilling g xs h) same f.filling)

-- nor have they where no lawful history shows them
pub never_none : (g : Setup) (lines : List (List ℕ)) → ShowsNever g lines → HasNoFilling g lines
never_none g lines never = λ h f. never h f.filling.lawful f.shown

-- ---- what is told of lines

pub filling_begins : (g : Setup) (seen : List Event) (h : History) → IsFilling g seen h
    → Begins (seen_in h) seen
filling_begins g seen h f = begins_all (seen_in h) seen f.shows

-- what a search found, as an arm has it
pub found_at : (g : Setup) (xs seen : List Event) (filled x : Filled) → xs ≡ seen → filled ≡ x
    → IsFound g xs filled → IsFound g seen x
found_at g xs seen filled x same is found = grind arith

-- a history that a search found or came to is one that comes so far
pub far_whole : (g : Setup) (seen : List Event) (h : History) → IsFilling g seen h → IsFar g seen h
far_whole g seen h f = (f.lawful, filling_begins g seen h f)

pub far_reach : (g : Setup) (seen events : List Event) (place : ℕ) → IsReach g seen events place
    → IsFar g seen (history_of events)
far_reach g seen events place r = (r.part.lawful, r.part.shows)

pub told_faulty : (g : Setup) (lines : List (List ℕ)) (place : ℕ) (told : Told) → IsFaulty lines place
    → told.verdict ≡ verdict.Bad → Names place told.text.items → IsToldOf g lines told.verdict told.text.items
told_faulty g lines place told faulty is names = grind arith

-- ---- texts

far_flat : (s j remark line : List ℕ)
    → ((((s ++ j ++ []) ++ codes "# ") ++ remark) ++ line) ++ 10 ∷ []
    ≡ s ++ j ++ (codes "# " ++ (remark ++ line ++ 10 ∷ []))
far_flat s j remark line = simp (append-nil, append_assoc)

-- a text of a history with a remark after it
pub tells_far : (g : Setup) (h : History) (a b c d e remark line : List ℕ) → IsLawfulApart g h
    → Tells g h a [] → b ≡ a ++ codes "# " → c ≡ b ++ remark → d ≡ c ++ line → e ≡ d ++ 10 ∷ []
    → TellsFar g e
tells_far g h a b c d e remark line lawful tells p q r s =
    let whole : e ≡ (((a ++ codes "# ") ++ remark) ++ line) ++ 10 ∷ [] = cc in
    let text : e ≡ ((((setup_text g ++ joined tells.0 ++ []) ++ codes "# ") ++ remark) ++ line) ++ 10 ∷ [] = whole ∙ ap (λ (l : List ℕ). (((l ++ codes "# ") ++ remark) ++ line) ++ 10 ∷ []) tells.2 in
    (h, lawful, (remark ++ line ++ 10 ∷ [], (tells.0, tells.1, text ∙ far_flat (setup_text g) (joined tells.0) remark line)))

-- a text that names a line
pub named : (place : ℕ) (z a b c flaw : List ℕ) → z ≡ [] → a ≡ z ++ codes "line " ++ decimal (place + 1)
    → b ≡ a ++ codes ": bad line: " → c ≡ b ++ flaw → Names place c
named place z a b c flaw z_is a_is b_is c_is = grind arith

-- ---- the first line

-- bytes have a line at least
pub no_line : (bytes : List ℕ) → [] ≡ lines_in bytes → ⊥
no_line bytes is =
    let none : 0 ≡ length (lines_in bytes) = ap length is in
    omega (arith, none, length-slice_split (λ b. b == 10) bytes)

-- what is told by what the first line says
pub answered : (given : Setup) (bytes : List ℕ) (lines : List (List ℕ)) (said x : Said) (told : Told) → lines ≡ lines_in bytes
    → SaysFirst lines said → said ≡ x → IsToldBy given lines x told → IsAnswered given bytes told
answered given bytes lines said x told is says same by = grind (arith, no_line)
