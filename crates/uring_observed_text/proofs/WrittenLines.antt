-- The events of lines, one after the other: any lawful history of the lines has them, but for the bytes of its finishes.
use Rattle.std.proofs.Common.{◌≡◌, ◌++◌, ℕ, ◌+◌, ◌≤◌, Bool, true, false, List, [], ◌∷◌, length, take, drop, map, Some, refl, sym, ap, subst, ◌∙◌, inl, inr}
use mathlib.Core.List.{head-eq_of_cons-eq, tail-eq_of_cons-eq}
use Rattle.uring_observed_text.proofs.Common.{Answer, AreWritten, CalledForApart, Core, Event, FitsApart, History, IsEarlyBy, IsEarlyIn, IsEarlyOf, IsEarlyText, IsFoundBare, IsLawfulApart, IsNeverWritten, IsNoRecord, IsOnlyWritten, IsPassed, IsRecord, IsSaid, IsSightOfNone, IsSized, IsWritten, IsWrittenAs, IsWrittenSight, ReadsWritten, SaysFirst, Setup, Sight, Step, World, bare, blank, blank_answer, early_of, history_of, length-map, lines_in, record_once, reverse, reverse-append, slice_get, take_all, text_of, world}
use Rattle.uring_core.specs.declared.answer.Answer.TheVariants as answer
use Rattle.uring_core.specs.declared.step.Step.TheVariants as step
use Rattle.uring_text.specs.Remarks.{is_remark}
use Rattle.uring_effect_points.specs.declared.decision.EffectsFound.{EffectsFound}
use Rattle.uring_effect_points.specs.declared.decision.EffectsFound.TheVariants as found
use Rattle.uring_effect_points.proofs.BlankWorlds.{called_blank, world_same}
use Rattle.uring_effect_points.proofs.Loosening.{blanks_bare}
use Rattle.uring_check.specs.declared.setup_line.Said.{Said}
use Rattle.uring_observed_text.specs.declared.early.Early.{Early}
use Rattle.uring_observed_text.specs.declared.sight.Sight.TheVariants as sight
use Rattle.uring_observed_text.proofs.Answered.{no_line}
use Rattle.uring_observed_text.proofs.OneLine.{one_more, split_lines}

-- a line that is no step with an answer
pub none_sight : (core : Core) (h : History) (line : List ℕ) (x : Sight) → IsNoRecord line
    → IsSightOfNone line x → FitsApart core h → IsWrittenSight core h line x
none_sight core h line sight.Passed none so fits = ((none, so), fits)
none_sight core h line sight.Bad none so fits = (none, so)
none_sight core h line (sight.Shown s a) none so fits = absurd so
none_sight core h line sight.Wrong none so fits = absurd so
none_sight core h line sight.Hidden none so fits = absurd so

-- a line that is a step with the text of an answer
pub step_sight : (core : Core) (h : History) (line text : List ℕ) (s : Step) (x : Sight)
    → IsRecord line s text → IsWrittenAs core h s text x → IsWrittenSight core h line x
step_sight core h line text s (sight.Shown t a) is (t_is, text_is, sized, only, fits) =
    subst (λ (u : Step). IsWritten line (u, a) × IsOnlyWritten core.setup h u (text_of a) a × FitsApart core (blank (u, a) ∷ h)) (sym t_is)
    ((subst (λ (l : List ℕ). IsRecord line s l) (sym text_is) is, sized), subst (λ (l : List ℕ). IsOnlyWritten core.setup h s l a) (sym text_is) only, fits)
step_sight core h line text s sight.Wrong is so = (s, text, is, so)
step_sight core h line text s sight.Hidden is so = absurd so
step_sight core h line text s sight.Passed is so = absurd so
step_sight core h line text s sight.Bad is so = absurd so

-- ---- what is called for without the bytes

called_so : (g : Setup) (k h : History) (s : Step) (a : Answer) → map bare k ≡ map bare h → CalledForApart g (world g k) s a
    → CalledForApart g (world g (map blank h)) s (blank_answer s a)
called_so g k h s a same called =
    let blanks : map blank k ≡ map blank h = sym (blanks_bare k) ∙ ap (map blank) same ∙ blanks_bare h in
    subst (λ (es : History). CalledForApart g (world g es) s (blank_answer s a)) blanks
    (subst (λ (w : World). CalledForApart g w s (blank_answer s a)) (sym (world_same g k)) (called_blank g (world g k) s a called))

-- ---- one line more

pub passed_more : (g : Setup) (lines : List (List ℕ)) (h : History) (line : List ℕ) → IsPassed line
    → ReadsWritten g lines h → ReadsWritten g (line ∷ lines) h
passed_more g lines h line passed r = record {
  written = inl (passed, r.written);
  only = λ k lawful written. elim written [
    | inl before ↦ r.only k lawful before.1
    | inr event ↦ absurd (passed.0 event.0.0 (text_of event.0.1) event.3.0)
  ];
}

event_is : (g : Setup) (h past : History) (line : List ℕ) (s : Step) (a : Answer) (t : Step) (b : Answer)
    → IsWritten line (s, a) → IsOnlyWritten g (map blank h) s (text_of a) a → IsWritten line (t, b)
    → CalledForApart g (world g past) t b → map bare past ≡ map bare h → ◌≡◌ {A = Event} (bare (t, b)) (bare (s, a))
event_is g h past line s a t b written only also called same =
    let once = record_once line t s (text_of b) (text_of a) also.0 written.0 in
    let sized : IsSized s b = subst (λ (u : Step). IsSized u b) once.0 also.1 in
    let here : CalledForApart g (world g past) s b = subst (λ (u : Step). CalledForApart g (world g past) u b) once.0 called in
    ap (λ (u : Step). bare (u, b)) once.0 ∙ only b (called_so g past h s b same here) once.1 sized

pub shown_more : (g : Setup) (lines : List (List ℕ)) (h : History) (line : List ℕ) (s : Step) (a : Answer)
    → IsWritten line (s, a) → IsOnlyWritten g (map blank h) s (text_of a) a → ReadsWritten g lines h
    → ReadsWritten g (line ∷ lines) ((s, a) ∷ h)
shown_more g lines h line s a written only r = record {
  written = inr ((s, a), h, refl, written, r.written);
  only = λ k lawful are. elim are [
    | inl before ↦ absurd (before.0.0 s (text_of a) written.0)
    | inr event ↦
        let both : IsLawfulApart g (event.0 ∷ event.1) = subst (IsLawfulApart g) event.2 lawful in
        let same : map bare event.1 ≡ map bare h = r.only event.1 both.1 event.4 in
        let is : ◌≡◌ {A = Event} (bare event.0) (bare (s, a)) = event_is g h event.1 line s a event.0.0 event.0.1 written only event.3 both.0 same in
        ap (map bare) event.2 ∙ ap (λ (x : Event). x ∷ map bare event.1) is ∙ ap (λ (es : History). bare (s, a) ∷ es) same
  ];
}

-- lines of no lawful history
abbrev pub IsNever : Setup → List (List ℕ) → Type 0
IsNever g lines = (k : History) → IsLawfulApart g k → AreWritten lines k → ⊥

wrong_more : (g : Setup) (lines : List (List ℕ)) (h : History) (line : List ℕ) (s : Step) (text : List ℕ)
    → IsRecord line s text → IsNeverWritten g (map blank h) s text → ReadsWritten g lines h → IsNever g (line ∷ lines)
wrong_more g lines h line s text is none r = λ k lawful are. elim are [
  | inl before ↦ before.0.0 s text is
  | inr event ↦
      let both : IsLawfulApart g (event.0 ∷ event.1) = subst (IsLawfulApart g) event.2 lawful in
      let once = record_once line event.0.0 s (text_of event.0.1) text event.3.0 is in
      let here : CalledForApart g (world g event.1) s event.0.1 = subst (λ (u : Step). CalledForApart g (world g event.1) u event.0.1) once.0 both.0 in
      none event.0.1 (called_so g event.1 h s event.0.1 (r.only event.1 both.1 event.4) here) once.1 (subst (λ (u : Step). IsSized u event.0.1) once.0 event.3.1)
]

never_later : (g : Setup) (later lines : List (List ℕ)) → IsNever g lines → IsNever g (later ++ lines)
never_later g [] lines never = never
never_later g (line ∷ later) lines never = λ k lawful are. elim are [
  | inl before ↦ never_later g later lines never k lawful before.1
  | inr event ↦ never_later g later lines never event.1 (subst (IsLawfulApart g) event.2 lawful).1 event.4
]

-- lines of no history
abbrev pub IsNone : List (List ℕ) → Type 0
IsNone lines = (k : History) → AreWritten lines k → ⊥

true_false : (b : Bool) → b ≡ true → b ≡ false → ⊥
true_false true t f = let g : true ≡ false = f in absurd cc
true_false false t f = let g : false ≡ true = t in absurd cc

bad_more : (lines : List (List ℕ)) (line : List ℕ) → IsNoRecord line → is_remark line ≡ false → IsNone (line ∷ lines)
bad_more lines line none other = λ k are. elim are [
  | inl before ↦ true_false (is_remark line) before.0.1 other
  | inr event ↦ none event.0.0 (text_of event.0.1) event.3.0
]

none_later : (later lines : List (List ℕ)) → IsNone lines → IsNone (later ++ lines)
none_later [] lines none = none
none_later (line ∷ later) lines none = λ k are. elim are [
  | inl before ↦ none_later later lines none k before.1
  | inr event ↦ none_later later lines none event.1 event.4
]

-- ---- the first lines

-- the first lines are read, and the core follows their events without bytes
pub record AreReadWritten (g : Setup) (first : List (List ℕ)) (core : Core) (events : List Event) : Type 0 where
  pub setup : core.setup ≡ g
  pub reads : ReadsWritten g (reverse first) (history_of events)
  pub fits : FitsApart core (map blank (history_of events))

abbrev pub IsLooked : Core → Core → List ℕ → Sight → Type 0
IsLooked old new line x = (h : History) → FitsApart old h → IsWrittenSight new h line x

pub none_written : (core : Core) (events : List Event) → FitsApart core [] → events ≡ []
    → AreReadWritten core.setup [] core events
none_written core events fits none =
    subst (λ (es : List Event). AreReadWritten core.setup [] core es) (sym none)
    (record { setup = refl; reads = record { written = refl; only = λ k lawful are. ap (map bare) are }; fits = fits })

pub passed_written : (g : Setup) (lines : List (List ℕ)) (i : ℕ) (line : List ℕ) (old new : Core) (events : List Event)
    → slice_get lines i ≡ Some line → new.setup ≡ old.setup → IsLooked old new line sight.Passed
    → AreReadWritten g (take i lines) old events → AreReadWritten g (take (i + 1) lines) new events
passed_written g lines i line old new events there same so r =
    let made = so (map blank (history_of events)) r.fits in
    record {
      setup = same ∙ r.setup;
      reads = subst (λ (ls : List (List ℕ)). ReadsWritten g ls (history_of events)) (sym (one_more lines i line there)) (passed_more g (reverse (take i lines)) (history_of events) line made.0 r.reads);
      fits = made.1;
    }

pub shown_written : (g : Setup) (lines : List (List ℕ)) (i : ℕ) (line : List ℕ) (s : Step) (a : Answer) (old new : Core) (events more : List Event)
    → slice_get lines i ≡ Some line → new.setup ≡ old.setup → IsLooked old new line (sight.Shown s a)
    → more ≡ events ++ (s, a) ∷ [] → AreReadWritten g (take i lines) old events
    → AreReadWritten g (take (i + 1) lines) new more
shown_written g lines i line s a old new events more there same so more_is r =
    let made = so (map blank (history_of events)) r.fits in
    let later : history_of more ≡ (s, a) ∷ history_of events = ap reverse more_is ∙ reverse-append events ((s, a) ∷ []) in
    let only : IsOnlyWritten g (map blank (history_of events)) s (text_of a) a = subst (λ (k : Setup). IsOnlyWritten k (map blank (history_of events)) s (text_of a) a) (same ∙ r.setup) made.1 in
    let reads : ReadsWritten g (line ∷ reverse (take i lines)) ((s, a) ∷ history_of events) = shown_more g (reverse (take i lines)) (history_of events) line s a made.0 only r.reads in
    record {
      setup = same ∙ r.setup;
      reads = subst (λ (h : History). ReadsWritten g (reverse (take (i + 1) lines)) h) (sym later) (subst (λ (ls : List (List ℕ)). ReadsWritten g ls ((s, a) ∷ history_of events)) (sym (one_more lines i line there)) reads);
      fits = subst (λ (h : History). FitsApart new (map blank h)) (sym later) made.2;
    }

pub wrong_written : (g : Setup) (lines : List (List ℕ)) (i : ℕ) (line : List ℕ) (old new : Core) (events : List Event)
    → slice_get lines i ≡ Some line → new.setup ≡ old.setup → IsLooked old new line sight.Wrong
    → AreReadWritten g (take i lines) old events → IsNever g (reverse lines)
wrong_written g lines i line old new events there same so r =
    let made = so (map blank (history_of events)) r.fits in
    let none : IsNeverWritten g (map blank (history_of events)) made.0 made.1 = subst (λ (k : Setup). IsNeverWritten k (map blank (history_of events)) made.0 made.1) (same ∙ r.setup) made.3 in
    let here : IsNever g (line ∷ reverse (take i lines)) = wrong_more g (reverse (take i lines)) (history_of events) line made.0 made.1 made.2 none r.reads in
    subst (IsNever g) (sym (split_lines lines (i + 1)))
    (never_later g (reverse (drop (i + 1) lines)) (reverse (take (i + 1) lines)) (subst (IsNever g) (sym (one_more lines i line there)) here))

pub bad_written : (g : Setup) (lines : List (List ℕ)) (i : ℕ) (line : List ℕ) (old new : Core) (events : List Event)
    → slice_get lines i ≡ Some line → IsLooked old new line sight.Bad
    → AreReadWritten g (take i lines) old events → IsNone (reverse lines)
bad_written g lines i line old new events there so r =
    let made = so (map blank (history_of events)) r.fits in
    subst IsNone (sym (split_lines lines (i + 1)))
    (none_later (reverse (drop (i + 1) lines)) (reverse (take (i + 1) lines)) (subst IsNone (sym (one_more lines i line there)) (bad_more (reverse (take i lines)) line made.0 made.1)))

pub all_written : {X : Type 0} (g : Setup) (v : X → List ℕ) (xs : List X) (i : ℕ) (core : Core) (events : List Event)
    → length xs ≤ i → AreReadWritten g (take i (map v xs)) core events
    → ReadsWritten g (reverse (map v xs)) (history_of events)
all_written g v xs i core events all r =
    let whole : take i (map v xs) ≡ map v xs = take_all i (map v xs) (subst (λ (n : ℕ). n ≤ i) (sym (length-map xs v)) all) in
    subst (λ (ls : List (List ℕ)). ReadsWritten g (reverse ls) (history_of events)) whole r.reads

-- ---- what is found of the lines

text_bare : (e : Event) → text_of (bare e).1 ≡ text_of e.1
text_bare (step.Finish n, answer.Ended res bytes) = refl
text_bare (step.Finish n, a) = refl
text_bare (s, a) = refl

step_bare : (e : Event) → (bare e).0 ≡ e.0
step_bare (step.Finish n, answer.Ended res bytes) = refl
step_bare (step.Finish n, a) = refl
step_bare (s, a) = refl

sized_bare : (e : Event) → IsSized (bare e).0 (bare e).1 ≡ IsSized e.0 e.1
sized_bare (step.Finish n, answer.Ended res bytes) = refl
sized_bare (step.Finish n, a) = refl
sized_bare (s, a) = refl

written_bare : (line : List ℕ) (e f : Event) → bare e ≡ bare f → IsWritten line e → IsWritten line f
written_bare line e f same written =
    let there : IsRecord line (bare e).0 (text_of (bare e).1) = subst (λ (s : Step). IsRecord line s (text_of (bare e).1)) (sym (step_bare e)) (subst (λ (l : List ℕ). IsRecord line e.0 l) (sym (text_bare e)) written.0) in
    let here : IsRecord line (bare f).0 (text_of (bare f).1) = subst (λ (x : Event). IsRecord line x.0 (text_of x.1)) same there in
    let sized : IsSized (bare f).0 (bare f).1 = subst (λ (x : Event). IsSized x.0 x.1) same (subst (λ (T : Type 0). T) (sym (sized_bare e)) written.1) in
    (subst (λ (s : Step). IsRecord line s (text_of f.1)) (step_bare f) (subst (λ (l : List ℕ). IsRecord line (bare f).0 l) (text_bare f) here), subst (λ (T : Type 0). T) (sized_bare f) sized)

-- lines of a history are those of any that is the same but for its bytes
pub written_same : (lines : List (List ℕ)) (h k : History) → map bare h ≡ map bare k → AreWritten lines h → AreWritten lines k
written_same [] h [] same are = refl
written_same [] h (f ∷ k) same are =
    absurd (let e : [] ≡ bare f ∷ map bare k = sym (ap (map bare) are) ∙ same in cc)
written_same (line ∷ lines) h k same (inl before) = inl (before.0, written_same lines h k same before.1)
written_same (line ∷ lines) h [] same (inr event) =
    absurd (let e : bare event.0 ∷ map bare event.1 ≡ [] = sym (ap (map bare) event.2) ∙ same in cc)
written_same (line ∷ lines) h (f ∷ k) same (inr event) =
    let e : bare event.0 ∷ map bare event.1 ≡ bare f ∷ map bare k = sym (ap (map bare) event.2) ∙ same in
    inr (f, k, refl, written_bare line event.0 f (head-eq_of_cons-eq e) event.3, written_same lines event.1 k (tail-eq_of_cons-eq e) event.4)

pub early_found : (g : Setup) (lines : List (List ℕ)) (events : List Event) (x : EffectsFound) (steps : ℕ)
    → ReadsWritten g lines (history_of events) → IsFoundBare g (history_of events) x
    → IsEarlyOf g lines (early_of x steps)
early_found g lines events found.Lawful steps r (k, lawful, same) =
    (k, lawful, written_same lines (history_of events) k (sym same) r.written)
early_found g lines events found.Unlawful steps r none = λ h lawful are. none h (r.only h lawful are) lawful
early_found g lines events found.Unexplained steps r none = λ h lawful are.
    none h (r.only h lawful.lawful are) lawful
early_found g lines events found.GaveUp steps r open_ = tt

-- ---- the first line

pub early_answered : (given : Setup) (bytes : List ℕ) (lines : List (List ℕ)) (said y : Said) (x : Early) → lines ≡ lines_in bytes
    → SaysFirst lines said → said ≡ y → IsEarlyBy given lines y x → IsEarlyText given bytes x
early_answered given bytes [] said y x is says same by = absurd (no_line bytes is)
early_answered given bytes (first ∷ rest) said y x is says same by =
    subst (λ (ls : List (List ℕ)). IsEarlyIn given ls x) is (y, subst (λ (s : Said). IsSaid first s) same says, by)
