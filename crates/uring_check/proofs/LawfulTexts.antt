-- What findings say of the text of a lawful history.
use Rattle.std.proofs.Common.{◌≡◌, ◌⊎◌, ℕ, Bool, false, List, [], ◌∷◌, refl, sym, ap, ◌∙◌, inl, inr, arith}
use Rattle.uring_check.proofs.Common.{AreFound, AreRecorded, Finding, Found, History, IsFinding, IsLawfulBy, IsLawfulText, Rules, Verdict, has_stopped, history_after, judged, lines_of, text_of, true≢false, verdict_of, world}
use Rattle.uring_check.specs.Checks.{Says}
use Rattle.uring_check.specs.Findings as finding
use Rattle.uring_check.specs.declared.verdict.Verdict.TheVariants as verdict
use Rattle.uring_check.proofs.RuleLaws.{apart_once, lawful_first}
use Rattle.uring_check.proofs.SameTexts.{answer_once}
use Rattle.uring_check.proofs.Splitting.{record_once}

-- the history is lawful, these lines are its text, and no check stopped at one of them
pub record IsRight (g : Rules) (all : Bool) (xs : List Found) : Type 0 where
  pub lawful : IsLawfulBy g (history_after xs)
  pub recorded : AreRecorded g (lines_of xs) (history_after xs)
  pub goes_on : has_stopped all xs ≡ false

-- one line more
right_more : (g : Rules) (all : Bool) (before : List Found) (line : List ℕ) (f : Finding)
    → IsFinding g (history_after before) line f → judged verdict.Lawful f ≡ verdict.Lawful → IsRight g all before
    → IsRight g all (record { line = line; finding = f } ∷ before)
right_more g all before line finding.Passed is v r =
    record { lawful = r.lawful; recorded = inl (is, r.recorded); goes_on = r.goes_on }
right_more g all before line (finding.Right s a) is v r =
    let recorded = inr ((s, a), history_after before, refl, (is.0, is.1), r.recorded) in
    record { lawful = grind (arith, is.2, r.lawful); recorded = recorded; goes_on = r.goes_on }
right_more g all before line _ is v r = absurd (grind (arith, is, v))

pub all_right : (g : Rules) (all : Bool) (xs : List Found) → AreFound g all xs
    → verdict_of xs ≡ verdict.Lawful → IsRight g all xs
all_right g all [] are v = record { lawful = grind arith; recorded = refl; goes_on = refl }
all_right g all (x ∷ before) are v =
    let none : (verdict_of before ≡ verdict.Lawful) × (judged verdict.Lawful x.finding ≡ verdict.Lawful) = grind (arith, v) in
    let r = all_right g all before are.1 none.0 in
    right_more g all before x.line x.finding (rw r.goes_on at are.0) none.1 r

-- ---- one lawful history has the text

pub same_history : (g : Rules) (lines : List (List ℕ)) (h k : History) → IsLawfulBy g h
    → AreRecorded g lines h → IsLawfulBy g k → AreRecorded g lines k → h ≡ k
same_history g [] h k p x q y = x ∙ sym y
same_history g (line ∷ lines) h k p (inl x) q (inl y) = same_history g lines h k p x.1 q y.1
same_history g (line ∷ lines) h k p (inl x) q (inr y) = absurd (x.0.0 y.0.0 (text_of y.0.1) y.3.0)
same_history g (line ∷ lines) h k p (inr x) q (inl y) = absurd (y.0.0 x.0.0 (text_of x.0.1) x.3.0)
same_history g (line ∷ lines) h k p (inr x) q (inr y) =
    let one = lawful_first g x.0.0 x.0.1 x.1 (rw x.2 at p) in
    let other = lawful_first g y.0.0 y.0.1 y.1 (rw y.2 at q) in
    let past : x.1 ≡ y.1 = same_history g lines x.1 y.1 one.1 x.4 other.1 y.4 in
    let once = record_once line x.0.0 y.0.0 (text_of x.0.1) (text_of y.0.1) x.3.0 y.3.0 in
    grind (arith, (x.2), (y.2), past, (one.0), (other.0), (x.3), (y.3), once, (apart_once g.setup (world g.setup y.1) y.0.0 x.0.1 y.0.1), (answer_once g.setup (world g.setup y.1) y.0.0 x.0.1 y.0.1))

-- ---- the text of no lawful history

-- the first line that isn't right is no line of a lawful history
none_more : (g : Rules) (line : List ℕ) (lines : List (List ℕ)) (known h : History) (f : Finding)
    → IsFinding g known line f → (judged verdict.Lawful f ≡ verdict.Lawful → ⊥)
    → ((past : History) → IsLawfulBy g past → AreRecorded g lines past → past ≡ known)
    → IsLawfulBy g h → AreRecorded g (line ∷ lines) h → ⊥
none_more g line lines known h (finding.Wrong s wanted) is v prior lawful (inl passed) = passed.0.0 s is.0 is.1
none_more g line lines known h (finding.Wrong s wanted) is v prior lawful (inr r) =
    let so = lawful_first g r.0.0 r.0.1 r.1 (rw r.2 at lawful) in
    let once = record_once line r.0.0 s (text_of r.0.1) is.0 r.3.0 is.1 in
    is.2.not_called r.0.1 (rw (prior r.1 so.1 r.4, once.0) at so.0) once.1 (rw once.0 at r.3.1)
none_more g line lines known h finding.Bad is v prior lawful (inl passed) = true≢false (sym passed.0.1 ∙ is.1)
none_more g line lines known h finding.Bad is v prior lawful (inr r) = is.0 r.0.0 (text_of r.0.1) r.3.0
none_more g line lines known h _ is v prior lawful rec = v refl

unlawful_said : (g : Rules) (all : Bool) (xs : List Found) → AreFound g all xs
    → (verdict_of xs ≡ verdict.Lawful → ⊥) → IsLawfulText g (lines_of xs) → ⊥
unlawful_said g all [] are v is = v refl
unlawful_said g all (x ∷ before) are v is =
    let either : (verdict_of before ≡ verdict.Lawful) ⊎ (verdict_of before ≡ verdict.Lawful → ⊥) = grind arith in elim either [
      | inl so ↦
          let r = all_right g all before are.1 so in
          none_more g x.line (lines_of before) (history_after before) is.0 x.finding (rw r.goes_on at are.0) (λ e. v (ap (λ (w : Verdict). judged w x.finding) so ∙ e))
          (λ past lawful rec. same_history g (lines_of before) past (history_after before) lawful rec r.lawful r.recorded) is.1 is.2
      | inr fault ↦ unlawful_said g all before are.1 fault (grind (arith, is, lawful_first))
    ]

pub said : (g : Rules) (all : Bool) (xs : List Found) (v : Verdict) → AreFound g all xs
    → v ≡ verdict_of xs → Says g (lines_of xs) v
said g all xs verdict.Lawful are e =
    let r = all_right g all xs are (sym e) in (history_after xs, r.lawful, r.recorded)
said g all xs _ are e = unlawful_said g all xs are (λ v. absurd (cc (e, v)))
