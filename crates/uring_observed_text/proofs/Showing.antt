-- What a step with the text of an answer shows.
use Rattle.std.proofs.Common.{◌≡◌, ℕ, true, false, List, ◌∷◌, refl, sym, ap, subst, ◌∙◌, inl, inr, arith}
use Rattle.uring_observed_text.proofs.Common.{Answer, CalledForApart, Core, FitsApart, History, IsAnsweredAs, IsBare, IsFollowed, IsGuess, IsGuessed, IsNoFinish, IsSeenAs, IsShownIf, OrAgain, Setup, Sight, Step, World, begin_answer, is_hidden, is_submitting, submitted, text_of, world}
use Rattle.uring_core.specs.declared.step.Step.TheVariants as step
use Rattle.uring_core.specs.declared.answer.Answer.TheVariants as answer
use Rattle.uring_check.proofs.SameTexts.{begin_once}
use Rattle.uring_observed_text.specs.declared.sight.Sight.TheVariants as sight
use Rattle.uring_observed_text.proofs.Sides.{may_submitted}
use Rattle.uring_observed_text.proofs.Texts.{number_once, completion_once}

-- ---- steps to which one answer is called for, but for memory that is refused

answer_once : (g : Setup) (w : World) (s : Step) (a b : Answer) → IsNoFinish s → CalledForApart g w s a
    → CalledForApart g w s b → text_of b ≡ text_of a → b ≡ a
answer_once g w (step.Begin count) a b of e f same = begin_once (begin_answer w count) b a f e same
answer_once g w (step.Finish n) a b of e f same = absurd of
answer_once g w _ a b of e f same = f ∙ sym e

begin_other : (x a b : Answer) (text : List ℕ) → (text_of answer.Again ≡ text → ⊥) → (a ≡ answer.Again → ⊥)
    → (text_of a ≡ text → ⊥) → OrAgain x a → OrAgain x b → text_of b ≡ text → ⊥
begin_other (answer.Call n) a b text no_again lasts other (inl e) (inl f) same = other (ap text_of (e ∙ sym f) ∙ same)
begin_other (answer.Call n) a b text no_again lasts other (inl e) (inr f) same = no_again (ap text_of (sym f.0) ∙ same)
begin_other (answer.Call n) a b text no_again lasts other (inr e) f same = lasts e.0
begin_other x a b text no_again lasts other e f same = other (ap text_of (e ∙ sym f) ∙ same)

-- none has a text that is neither its own nor that memory was refused
answer_other : (g : Setup) (w : World) (s : Step) (a b : Answer) (text : List ℕ) → IsNoFinish s
    → (text_of answer.Again ≡ text → ⊥) → (a ≡ answer.Again → ⊥) → (text_of a ≡ text → ⊥)
    → CalledForApart g w s a → CalledForApart g w s b → text_of b ≡ text → ⊥
answer_other g w (step.Begin count) a b text of no_again lasts other e f same =
    begin_other (begin_answer w count) a b text no_again lasts other e f same
answer_other g w (step.Finish n) a b text of no_again lasts other e f same = absurd of
answer_other g w _ a b text of no_again lasts other e f same = other (ap text_of (e ∙ sym f) ∙ same)

-- memory was refused, if that is called for
pub again_answered : (core : Core) (h : History) (s : Step) (text : List ℕ) (x : Sight) → text_of answer.Again ≡ text
    → IsFollowed core h s answer.Again x → IsAnsweredAs core h s text x
again_answered core h s text x same never = grind arith

pub step_answered : (core : Core) (h : History) (s : Step) (a : Answer) (text : List ℕ) (x : Sight) → IsNoFinish s
    → (text_of answer.Again ≡ text → ⊥) → (a ≡ answer.Again → ⊥) → FitsApart core ((s, a) ∷ h)
    → IsShownIf s a text x → IsAnsweredAs core h s text x
step_answered core h s a text (sight.Shown t b) of no_again lasts fits (t_is, b_is, same) = (
  t_is,
  ap text_of b_is ∙ same,
  (λ d called is. answer_once core.setup (world core.setup h) s a d of fits.lawful.0 called (is ∙ sym same) ∙ sym b_is),
  subst (λ (y : Answer). FitsApart core ((s, y) ∷ h)) (sym b_is) fits,
)
step_answered core h s a text sight.Wrong of no_again lasts fits other = λ b called is.
    answer_other core.setup (world core.setup h) s a b text of no_again lasts other fits.lawful.0 called is
step_answered core h s a text _ of no_again lasts fits none = absurd none

-- what is called for is what may be shown
pub answered_seen : (core : Core) (seen : History) (s : Step) (text : List ℕ) (x : Sight) → is_submitting s ≡ true
    → IsAnsweredAs core (submitted seen) s text x → IsSeenAs core seen s text x
answered_seen core seen s text x of none = grind (arith, may_submitted)

-- ---- steps whose answer their text alone tells

guess_called : (g : Setup) (w : World) (s : Step) (a : Answer) → IsGuessed s → CalledForApart g w s a
    → IsGuess s a
guess_called g w s a of called = grind arith

-- two of the same text are the same
pub guess_once : (s : Step) (a b : Answer) → IsGuess s a → IsGuess s b → text_of a ≡ text_of b
    → IsBare s a → IsBare s b → a ≡ b
guess_once step.LoadCqTail (answer.Tail n) (answer.Tail m) x y same p q = grind (arith, number_once)
guess_once step.LoadCqTail (answer.Tail n) _ x y same p q = absurd y
guess_once step.StoreCqHead (answer.Head n) (answer.Head m) x y same p q = grind (arith, number_once)
guess_once step.StoreCqHead (answer.Head n) _ x y same p q = absurd y
guess_once step.Next (answer.Next n) (answer.Next m) x y same p q = grind (arith, number_once)
guess_once step.Next (answer.Next n) answer.Nothing x y same p q = grind arith
guess_once step.Next (answer.Next n) _ x y same p q = absurd y
guess_once step.Next answer.Nothing (answer.Next m) x y same p q = grind arith
guess_once step.Next answer.Nothing answer.Nothing x y same p q = refl
guess_once step.Next answer.Nothing _ x y same p q = absurd y
guess_once step.Reap (answer.Reaped c) (answer.Reaped d) x y same p q = grind (arith, (completion_once c d same p q))
guess_once step.Reap (answer.Reaped c) answer.Nothing x y same p q = grind arith
guess_once step.Reap (answer.Reaped c) _ x y same p q = absurd y
guess_once step.Reap answer.Nothing (answer.Reaped d) x y same p q = grind arith
guess_once step.Reap answer.Nothing answer.Nothing x y same p q = refl
guess_once step.Reap answer.Nothing _ x y same p q = absurd y
guess_once _ a b x y same p q = absurd x

guessed_seen : (s : Step) → IsGuessed s → is_hidden s ≡ false
guessed_seen s of = grind arith

guessed_other : (s : Step) → IsGuessed s → is_submitting s ≡ false
guessed_other s of = grind arith

pub guess_shown : (core : Core) (seen : History) (s : Step) (a : Answer) (text : List ℕ) → IsGuessed s
    → IsGuess s a × (text_of a ≡ text) × IsBare s a → FitsApart core (submitted seen)
    → IsSeenAs core seen s text (sight.Shown s a)
guess_shown core seen s a text of (is, same, bare) fits = (
  refl,
  same,
  guessed_seen s of,
  bare,
  (λ b may text_is bare_b. guess_once s b a (guess_called core.setup (world core.setup may.h) s b of may.called) is (text_is ∙ sym same) bare_b bare),
  rw (guessed_other s of) fits,
)

pub guess_wrong : (core : Core) (seen : History) (s : Step) (text : List ℕ) → IsGuessed s
    → ((a : Answer) → IsGuess s a → text_of a ≡ text → IsBare s a → ⊥)
    → IsSeenAs core seen s text sight.Wrong
guess_wrong core seen s text of none = λ b may text_is bare.
    none b (guess_called core.setup (world core.setup may.h) s b of may.called) text_is bare
