-- What the rules of a check make of histories and answers.
use Rattle.std.proofs.Common.{◌≡◌, ◌∷◌, ◌∙◌, ℕ, Bool, true, sym, arith}
use Rattle.uring_check.proofs.Common.{Answer, CalledForApart, FinishesApart, History, IsCalled, IsLawfulBy, IsPlain, Rules, Setup, Step, World, begin_answer, is_running, signed_decimal, text_of, ℤ}
use Rattle.std.proofs.lemmas.Fmt.{signed_decimal_injective}
use Rattle.uring_core.specs.declared.step.Step.TheVariants as step
use Rattle.uring_text.specs.Spelling.{IsFile}
use Rattle.uring_check.proofs.SameTexts.{begin_once}

-- ---- histories

pub lawful_first : (g : Rules) (s : Step) (a : Answer) (h : History) → IsLawfulBy g ((s, a) ∷ h)
    → IsCalled g h s a × IsLawfulBy g h
lawful_first g s a h p = grind arith

-- ---- ends without files

pub result_once : (y z : ℤ) → IsFile y → IsFile z → signed_decimal y ≡ signed_decimal z → y ≡ z
result_once y z p q e = signed_decimal_injective y z (grind arith) (grind arith) e

finish_once : (n : ℕ) (running : Bool) (a b : Answer) → FinishesApart running a
    → FinishesApart running b → text_of a ≡ text_of b → IsPlain a true (step.Finish n)
    → IsPlain b true (step.Finish n) → a ≡ b
finish_once n running a b e f same p q = grind (arith, result_once)

-- ---- any step

pub apart_once : (g : Setup) (w : World) (s : Step) (a b : Answer) → CalledForApart g w s a
    → CalledForApart g w s b → text_of a ≡ text_of b → IsPlain a true s → IsPlain b true s → a ≡ b
apart_once g w (step.Begin count) a b p q same x y = begin_once (begin_answer w count) a b p q same
apart_once g w (step.Finish n) a b p q same x y = finish_once n (is_running w.requests n) a b p q same x y
apart_once g w _ a b p q same x y = p ∙ sym q
