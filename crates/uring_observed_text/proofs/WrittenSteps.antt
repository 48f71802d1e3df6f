-- What a step with the text of an answer is, of a core that knows no bytes.
use Rattle.std.proofs.Common.{◌≡◌, ℕ, ℤ, Bool, true, false, List, ◌∷◌, drop, refl, sym, ap, subst, ◌∙◌, arith}
use Rattle.uring_observed_text.proofs.Common.{Answer, CompletesTo, Core, Cqe, Event, FinishesApart, FitsApart, HasNoBytes, HasText, History, IsAnsweredAs, IsCompleted, IsFile, IsFinishAnswer, IsFollowed, IsShownIf, IsSized, IsWrittenAs, Sight, Step, bare, blank_answer, is_running, no_bytes, text_of, world}
use Rattle.uring_core.specs.declared.answer.Answer.TheVariants as answer
use Rattle.uring_core.specs.declared.step.Step.TheVariants as step
use Rattle.uring_observed_text.specs.declared.sight.Sight.TheVariants as sight
use Rattle.uring_observed_text.proofs.Texts.{signed_once}

-- ---- steps to which what is called for has no bytes

pub answered_written : (core : Core) (h : History) (s : Step) (text : List ℕ) (x : Sight) → HasNoBytes s
    → IsAnsweredAs core h s text x → IsWrittenAs core h s text x
answered_written core h s text x of none = grind arith

-- ---- Finish

idle_is : (n : ℕ) (b : Answer) → blank_answer (step.Finish n) b ≡ answer.NotRunning → b ≡ answer.NotRunning
idle_is n b e = grind arith

finish_once : (n : ℕ) (runs : Bool) (a b : Answer) → IsFinishAnswer a → FinishesApart runs a
    → FinishesApart runs (blank_answer (step.Finish n) b) → IsSized (step.Finish n) a → IsSized (step.Finish n) b
    → text_of b ≡ text_of a → ◌≡◌ {A = Event} (bare (step.Finish n, b)) (bare (step.Finish n, a))
finish_once n true (answer.Ended res bytes) (answer.Ended z more) of called also small sized same =
    ap (λ (y : ℤ). (step.Finish n, answer.Ended y no_bytes)) (signed_once z res sized small (ap (λ (l : List ℕ). drop 6 l) same))
finish_once n true (answer.Ended res bytes) b of called also small sized same = absurd also
finish_once n true a b of called also small sized same = absurd called
finish_once n false a b of called also small sized same =
    ap (λ (x : Answer). bare (step.Finish n, x)) (idle_is n b also ∙ sym called)

finish_never : (n : ℕ) (runs : Bool) (a b : Answer) → IsFinishAnswer a → (FinishesApart runs a → ⊥)
    → FinishesApart runs (blank_answer (step.Finish n) b) → text_of b ≡ text_of a → ⊥
finish_never n runs a b of never also same = grind arith

finish_blank : (n : ℕ) (a : Answer) → IsFinishAnswer a → blank_answer (step.Finish n) a ≡ a
finish_blank n a of = grind arith

pub finish_followed : (core : Core) (h : History) (n : ℕ) (text : List ℕ) (a : Answer) (x : Sight) → IsFinishAnswer a
    → text_of a ≡ text → ((m : ℕ) → IsSized (step.Finish m) a) → IsFollowed core h (step.Finish n) a x
    → IsWrittenAs core h (step.Finish n) text x
finish_followed core h n text a (sight.Shown t b) of same small (t_is, b_is, fits) =
    subst (λ (u : Step). IsWrittenAs core h (step.Finish n) text (sight.Shown u b)) (sym t_is)
    (subst (λ (y : Answer). IsWrittenAs core h (step.Finish n) text (sight.Shown (step.Finish n) y)) (sym b_is) (
      refl,
      same,
      small n,
      λ c called text_is sized. finish_once n (is_running (world core.setup h).requests n) a c of fits.lawful.0 called (small n) sized (text_is ∙ sym same),
      subst (λ (y : Answer). FitsApart core ((step.Finish n, y) ∷ h)) (sym (finish_blank n a of)) fits,
    ))
finish_followed core h n text a sight.Wrong of same small never = λ c called text_is sized.
    finish_never n (is_running (world core.setup h).requests n) a c of never called (text_is ∙ sym same)
finish_followed core h n text a sight.Passed of same small none = absurd none
finish_followed core h n text a sight.Hidden of same small none = absurd none
finish_followed core h n text a sight.Bad of same small none = absurd none

no_finish_by : (n : ℕ) (runs : Bool) (text : List ℕ) (b : Answer)
    → ((a : Answer) → IsFinishAnswer a → text_of a ≡ text → ((m : ℕ) → IsSized (step.Finish m) a) → ⊥)
    → FinishesApart runs (blank_answer (step.Finish n) b) → text_of b ≡ text → IsSized (step.Finish n) b → ⊥
no_finish_by n true text (answer.Ended res bytes) none called same sized =
    none (answer.Ended res no_bytes) refl same (λ m. sized)
no_finish_by n true text b none called same sized = absurd called
no_finish_by n false text b none called same sized =
    none answer.NotRunning tt (ap text_of (sym (idle_is n b called)) ∙ same) (λ m. tt)

-- a text that a finish never has
pub no_finish : (core : Core) (h : History) (n : ℕ) (text : List ℕ)
    → ((a : Answer) → IsFinishAnswer a → text_of a ≡ text → ((m : ℕ) → IsSized (step.Finish m) a) → ⊥)
    → IsWrittenAs core h (step.Finish n) text sight.Wrong
no_finish core h n text none = λ b called same sized.
    no_finish_by n (is_running (world core.setup h).requests n) text b none called same sized

-- neither a text of a request that doesn't run, nor of an end
pub no_answer : (text : List ℕ) → (text_of answer.NotRunning ≡ text → ⊥)
    → ((res : ℤ) → IsFile res → text_of (answer.Ended res no_bytes) ≡ text → ⊥)
    → (a : Answer) → IsFinishAnswer a → text_of a ≡ text → ((m : ℕ) → IsSized (step.Finish m) a) → ⊥
no_answer text idle ended answer.NotRunning of same small = idle same
no_answer text idle ended (answer.Ended res bytes) of same small = ended res (small 0) same
no_answer text idle ended a of same small = absurd of

-- ---- Reap

pub reap_written : (core : Core) (h : History) (c : Cqe) (text : List ℕ) (x : Sight) → FitsApart core ((step.Reap, answer.Reaped c) ∷ h)
    → IsCompleted c text x → IsWrittenAs core h step.Reap text x
reap_written core h c text x fits never = grind arith

abbrev IsNone : Answer → Type 0
IsNone a = (c : Cqe) → a ≡ answer.Reaped c → ⊥

none_blank : (a : Answer) → IsNone a → blank_answer step.Reap a ≡ a
none_blank a none = grind arith

none_sized : (a : Answer) → IsNone a → IsSized step.Reap a
none_sized a none = grind arith

none_is : (a b : Answer) → IsNone a → blank_answer step.Reap b ≡ a → b ≡ a
none_is a b none is = grind arith

pub none_written : (core : Core) (h : History) (a : Answer) (text : List ℕ) (x : Sight) → ((c : Cqe) → a ≡ answer.Reaped c → ⊥)
    → FitsApart core ((step.Reap, a) ∷ h) → IsShownIf step.Reap a text x → IsWrittenAs core h step.Reap text x
none_written core h a text (sight.Shown t b) none fits (t_is, b_is, same) =
    subst (λ (u : Step). IsWrittenAs core h step.Reap text (sight.Shown u b)) (sym t_is)
    (subst (λ (y : Answer). IsWrittenAs core h step.Reap text (sight.Shown step.Reap y)) (sym b_is) (
      refl,
      same,
      none_sized a none,
      (λ d called is sized. ap (λ (y : Answer). bare (step.Reap, y)) (none_is a d none (called ∙ sym fits.lawful.0))),
      subst (λ (y : Answer). FitsApart core ((step.Reap, y) ∷ h)) (sym (none_blank a none)) fits,
    ))
none_written core h a text sight.Wrong none fits other = λ d called is sized.
    other (ap text_of (sym (none_is a d none (called ∙ sym fits.lawful.0))) ∙ is)
none_written core h a text _ none fits so = absurd so

-- what a text comes to after which a completion without bytes is reaped
pub completed_whole : (c d : Cqe) (text : List ℕ) (x : Sight) → c.payload ≡ no_bytes → CompletesTo c text d
    → IsShownIf step.Reap (answer.Reaped d) text x → IsCompleted c text x
completed_whole c d text x none to other = grind arith

pub completed_full : (c : Cqe) (text : List ℕ) → (c.payload ≡ no_bytes → ⊥) → IsCompleted c text sight.Wrong
completed_full c text full = λ e same has. full (ap (λ (x : Cqe). x.payload) (sym same))

pub completed_none : (c : Cqe) (text : List ℕ) → ((e : Cqe) → HasText c text e → ⊥) → IsCompleted c text sight.Wrong
completed_none c text none = λ e same has. none e has
