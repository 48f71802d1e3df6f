-- No two answers that are called for to one step have the same text.
use Rattle.std.proofs.Common.{◌≡◌, ℕ, pos, neg_ℤ, ◌^◌, ◌<◌, Bool, true, false, List, drop, sym, ap, ◌∙◌, arith}
use Rattle.std.proofs.lemmas.Fmt.{signed_decimal_injective}
use Rattle.uring_check.proofs.Common.{Answer, ENOMEM, OrAgain, Requests, Setup, Step, World, begin_answer, is_running, no_bytes, text_of}
use Rattle.uring_files.specs.Contents.{FileContents}
use Rattle.uring_core.specs.CalledFor.{CalledFor, EndsOn, files_of}
use Rattle.uring_core.specs.declared.answer.Answer.TheVariants as answer
use Rattle.uring_core.specs.declared.step.Step.TheVariants as step

-- ---- Begin

pub begin_once : (x a b : Answer) → OrAgain x a → OrAgain x b → text_of a ≡ text_of b → a ≡ b
begin_once x a b e f same = grind arith

-- ---- Finish

-- it ends with another text where memory was refused
growth_text : (n : ℕ) → n < 2 ^ 63
    → text_of (answer.Ended (pos n) no_bytes) ≡ text_of (answer.Ended (neg_ℤ ENOMEM) no_bytes)
    → pos n ≡ neg_ℤ ENOMEM
growth_text n small e = signed_decimal_injective (pos n) (neg_ℤ ENOMEM) small (omega arith) (ap (λ (l : List ℕ). drop 6 l) e)

end_once : (files : List FileContents) (r : Requests) (n : ℕ) (running : Bool) (a b : Answer)
    → EndsOn files r n running a → EndsOn files r n running b → text_of a ≡ text_of b → a ≡ b
end_once files r n true (answer.Ended res bytes) (answer.Ended res' bytes') e f same = grind (arith, growth_text)
end_once files r n true _ _ e f same = absurd (grind (arith, e, f))
end_once files r n false a b e f same = e ∙ sym f

-- ---- any step

pub answer_once : (g : Setup) (w : World) (s : Step) (a b : Answer) → CalledFor g w s a
    → CalledFor g w s b → text_of a ≡ text_of b → a ≡ b
answer_once g w (step.Begin count) a b p q same = begin_once (begin_answer w count) a b p q same
answer_once g w (step.Finish n) a b p q same = end_once (files_of g w) w.requests n (is_running w.requests n) a b p q same
answer_once g w _ a b p q same = p ∙ sym q
