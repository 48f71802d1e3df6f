-- What an explainer keeps, byte by byte and line by line.
use Rattle.std.proofs.Common.{◌≡◌, ◌≢◌, ℕ, ◌+◌, ◌-◌, ◌^◌, min, Bool, true, false, List, [], ◌∷◌, ◌++◌, length, Option, Result, refl, sym, ap, subst, ◌∙◌, append_assoc, arith, None, ◌||◌}
use Rattle.uring_trace.proofs.Common.{AppendsLine, Asked, Bad, Explaining, Explains, ExplainsBeginning, ExplainsWholeBy, Fits, History, IfOk, IsBad, IsGrantedTo, IsSaid, IsStep, KeptLine, Machine, Made, Remark, Said, Saying, Step, Telling, TellsShown, TellsStep, Why, after_text, append-nil, bad_note, codes, ended, event_in, events_in, history_of, is_bad, joined, kept_of, line_number, lines_in, noted_of, told_of, with_last, world}
use Rattle.std.specs.Option.{option_to_list}
use Rattle.std.specs.List.{list_any}
use Rattle.uring_entry.specs.Setup.{Setup}
use Rattle.uring_machine.specs.Settling.{AreUnrefused}
use Rattle.uring_core.specs.declared.answer.Answer.{Answer}
use Rattle.uring_dispatch.specs.declared.answers.CancelFound.{CancelFound}
use Rattle.uring_trace.specs.Reasons.{kept_reason, reason_text}
use Rattle.uring_trace.specs.Text.{text_of}
use Rattle.uring_trace.specs.declared.reason_text.Reason.{Reason}
use Rattle.uring_text.specs.Remarks.{is_remark}
use Rattle.std.proofs.Math.Bool.{or-false, or-true}
use Rattle.uring_trace.specs.Questions.{IsQuestion, IsNoQuestion}
use Rattle.uring_trace.specs.declared.questions.Question.{Question}
use Rattle.uring_text.proofs.Splits.{split_more, split_end, split_whole, last_some}
use Rattle.uring_trace.proofs.Sessions.{one_more, unrefused_more}

-- two facts of a value, whatever the value
pub if_ok_both : {T E : Type 0} (r : Result T E) (P Q R : T → Type 0) → ((x : T) → P x → Q x → R x)
    → IfOk r P → IfOk r Q → IfOk r R
if_ok_both r P Q R f a b = grind arith

pub line_reasoned : (before one two three four : List ℕ) (answer : Answer) (why w : Option Why) (found f : Option CancelFound) (kept : Option Reason) (chosen c : Option (List ℕ))
    → one ≡ before ++ text_of answer → two ≡ one ++ reason_text kept
    → three ≡ two ++ after_text chosen → four ≡ ended three
    → kept ≡ kept_reason answer why found → why ≡ w → found ≡ f → chosen ≡ c
    → four ≡ before ++ ended (text_of answer ++ (reason_text (kept_reason answer w f) ++ after_text c))
line_reasoned before one two three four answer why w found f kept chosen c said told last end is asked sought all =
    grind (arith, append_assoc)

-- what becomes of a line: a step, a question, a remark, or a bad one

pub line_made : (granted : Type 0) (old new : Machine) (number : ℕ) (bad : Bool) (line before after notes : List ℕ) (step : Step)
    → IsStep line step → TellsStep granted old new step before after
    → AppendsLine granted old new number bad bad line before after notes notes
line_made granted old new number bad line before after notes step is t = record {
  said = Made (step, t.answer);
  read = is;
  told = t.told;
  noted = sym (append-nil notes);
  bad_line = sym (or-false bad);
  same = t.same;
  fits = t.fits;
  unrefused = t.unrefused;
}

-- a line that is no step
no_step : (granted : Type 0) (m : Machine) (number : ℕ) (was_bad bad : Bool) (line before after notes notes' : List ℕ) (said : Said)
    → event_in said ≡ None → IsSaid line said
    → ((h : History) → Fits m h → after ≡ before ++ told_of m.core.setup (world m.core.setup h) said)
    → notes' ≡ notes ++ noted_of number line said → bad ≡ (was_bad || is_bad said)
    → AppendsLine granted m m number was_bad bad line before after notes notes'
no_step granted m number was_bad bad line before after notes notes' said none read told noted bad_line = record {
  said = said;
  read = read;
  told = told;
  noted = noted;
  bad_line = bad_line;
  same = refl;
  fits = λ h f. rw none f;
  unrefused = λ sure h f. rw none tt;
}

pub line_asked : (granted : Type 0) (m : Machine) (number : ℕ) (bad : Bool) (line before after notes : List ℕ) (question : Question)
    → IsQuestion line question → TellsShown m question before after
    → AppendsLine granted m m number bad bad line before after notes notes
line_asked granted m number bad line before after notes question is tells =
    no_step granted m number bad bad line before after notes notes (Asked question) refl is tells (sym (append-nil notes)) (sym (or-false bad))

pub line_bad : (granted : Type 0) (m : Machine) (number : ℕ) (was_bad : Bool) (line before after notes notes' : List ℕ)
    → IsBad line → is_remark line ≡ false → IsNoQuestion line
    → after ≡ before ++ ended (codes "bad line") → notes' ≡ notes ++ bad_note number line
    → AppendsLine granted m m number was_bad true line before after notes notes'
line_bad granted m number was_bad line before after notes notes' is remark none told noted =
    no_step granted m number was_bad true line before after notes notes' Bad refl (is, remark, none) (λ h f. told) noted (sym (or-true was_bad))

pub line_remark : (granted : Type 0) (m : Machine) (number : ℕ) (bad : Bool) (line text notes : List ℕ)
    → is_remark line ≡ true → AppendsLine granted m m number bad bad line text text notes notes
line_remark granted m number bad line text notes is =
    no_step granted m number bad bad line text text notes notes Remark refl is (λ h f. sym (append-nil text)) (sym (append-nil notes)) (sym (or-false bad))

-- before the first line
pub explaining_none : (telling : Telling) (m : Machine) (kept : KeptLine) → kept ≡ kept_of []
    → m.core.setup ≡ telling.setup → Fits m [] → Explaining telling m kept 1 false [] [] []
explaining_none telling m kept keeps same fits = grind arith

-- one byte more of a line
pub explain_byte : (telling : Telling) (m : Machine) (kept kept' : KeptLine) (number : ℕ) (bad : Bool) (before text notes : List ℕ) (b : ℕ)
    → b ≢ 10 → ((line : List ℕ) → kept ≡ kept_of line → kept' ≡ kept_of (line ++ b ∷ []))
    → Explaining telling m kept number bad before text notes
    → Explaining telling m kept' number bad (before ++ b ∷ []) text notes
explain_byte telling m kept kept' number bad before text notes b ne more h =
    grind (arith, (split_more before (lines_in h.sayings) h.line b ne h.splits))

-- one line more
explained_more : (granted : Type 0) (telling : Telling) (m m' : Machine) (number : ℕ) (was_bad bad : Bool) (xs : List Saying) (line text before after notes noted noted' : List ℕ)
    → IsGrantedTo telling granted → Explains telling xs (text ++ before) (notes ++ noted) → number ≡ line_number (length xs)
    → m.core.setup ≡ telling.setup → Fits m (history_of (events_in xs))
    → (a : AppendsLine granted m m' number was_bad bad line before after noted noted')
    → Explains telling (record { line = line; said = a.said } ∷ xs) (text ++ after) (notes ++ noted')
explained_more granted telling m m' number was_bad bad xs line text before after notes noted noted' sure h numbered same fits a =
    let past : History = history_of (events_in xs) in
    let told : after ≡ before ++ told_of telling.setup (world telling.setup past) a.said = subst (λ (g : Setup). after ≡ before ++ told_of g (world g past) a.said) same (a.told past fits) in
    record {
      lawful = rw (a.same ∙ same, one_more (event_in a.said) (events_in xs)) at (a.fits past fits).lawful;
      unrefused = λ yes. unrefused_more telling.setup (event_in a.said) (events_in xs) (h.unrefused yes) (subst (λ (g : Setup). AreUnrefused g past (option_to_list (event_in a.said))) same (a.unrefused (sure yes) past fits));
      each = (a.read, h.each);
      told = rw (told, ← append_assoc text before (told_of telling.setup (world telling.setup past) a.said), h.told);
      noted = rw (a.noted, numbered, ← append_assoc notes noted (noted_of (line_number (length xs)) line a.said), h.noted);
    }

bad_more : (was_bad bad : Bool) (xs : List Saying) (line : List ℕ) (said : Said) → was_bad ≡ list_any (λ x. is_bad x.said) xs
    → bad ≡ (was_bad || is_bad said) → bad ≡ list_any (λ x. is_bad x.said) (record { line = line; said = said } ∷ xs)
bad_more was_bad bad xs line said was is = grind arith

-- a line that has its end
pub explain_line : (granted : Type 0) (telling : Telling) (m m' : Machine) (kept : KeptLine) (number number' : ℕ) (was_bad bad : Bool) (bytes text before after notes noted noted' : List ℕ)
    → number' ≡ min (number + 1) (2 ^ 64 - 1)
    → ((line : List ℕ) → kept ≡ kept_of line → AppendsLine granted m m' number was_bad bad line before after noted noted')
    → IsGrantedTo telling granted → Explaining telling m kept number was_bad bytes (text ++ before) (notes ++ noted)
    → Explaining telling m' (kept_of []) number' bad (bytes ++ 10 ∷ []) (text ++ after) (notes ++ noted')
explain_line granted telling m m' kept number number' was_bad bad bytes text before after notes noted noted' next tells sure h =
    let a = tells h.line h.keeps in
    let all = explained_more granted telling m m' number was_bad bad h.sayings h.line text before after notes noted noted' sure h.explains h.numbered h.same h.fits a in
    let fits = rw (one_more (event_in a.said) (events_in h.sayings)) at (a.fits (history_of (events_in h.sayings)) h.fits) in
    let bad = bad_more was_bad bad h.sayings h.line a.said h.bad_lines a.bad_line in
    grind (arith, all, (split_end bytes (lines_in h.sayings) h.line h.splits), bad, fits)

-- the lines to their end, and the machine that fits them
abbrev pub Ended : Telling → Machine → Bool → List ℕ → List ℕ → List ℕ → Type 0
Ended telling m bad bytes text notes = (whole : ExplainsWholeBy telling bad bytes text notes)
    × (m.core.setup ≡ telling.setup) × Fits m (history_of (events_in whole.0))

-- a last line that has begun
pub explain_last : (granted : Type 0) (telling : Telling) (m m' : Machine) (kept : KeptLine) (number : ℕ) (was_bad bad : Bool) (bytes text before after notes noted noted' : List ℕ)
    → ((line : List ℕ) → kept ≡ kept_of line → line ≡ [] → ⊥)
    → ((line : List ℕ) → kept ≡ kept_of line → AppendsLine granted m m' number was_bad bad line before after noted noted')
    → IsGrantedTo telling granted → Explaining telling m kept number was_bad bytes (text ++ before) (notes ++ noted)
    → Ended telling m' bad bytes (text ++ after) (notes ++ noted')
explain_last granted telling m m' kept number was_bad bad bytes text before after notes noted noted' some tells sure h =
    let a = tells h.line h.keeps in (
      grind (arith, (explained_more granted telling m m' number was_bad bad h.sayings h.line text before after notes noted noted' sure h.explains h.numbered h.same h.fits a), (last_some (lines_in h.sayings) h.line (some h.line h.keeps)), (bad_more was_bad bad h.sayings h.line a.said h.bad_lines a.bad_line)),
      a.same ∙ h.same,
      subst (λ (k : History). Fits m' k) (one_more (event_in a.said) (events_in h.sayings)) (a.fits (history_of (events_in h.sayings)) h.fits),
    )

-- no last line has begun
pub explain_none : (telling : Telling) (m : Machine) (kept : KeptLine) (number : ℕ) (bad : Bool) (bytes text notes : List ℕ)
    → ((line : List ℕ) → kept ≡ kept_of line → line ≡ [])
    → Explaining telling m kept number bad bytes text notes → Ended telling m bad bytes text notes
explain_none telling m kept number bad bytes text notes none h =
    ((h.sayings, lines_in h.sayings, h.line, h.explains, h.splits, sym (ap (with_last (lines_in h.sayings)) (none h.line h.keeps)), h.bad_lines), h.same, h.fits)

pub explain_beginning : (telling : Telling) (m : Machine) (kept : KeptLine) (number : ℕ) (bad : Bool) (bytes text notes more : List ℕ)
    → Explaining telling m kept number bad bytes text notes
    → ExplainsBeginning telling (bytes ++ more) text notes
explain_beginning telling m kept number bad bytes text notes more h =
    let lines = lines_in h.sayings in
    (joined lines, h.line ++ more, h.sayings, h.explains, split_whole lines h.splits.each, ap (λ (l : List ℕ). l ++ more) h.splits.whole ∙ append_assoc (joined lines) h.line more)
