-- The same steps have the same answers, unless memory is refused.
use Rattle.std.proofs.Common.{◌≡◌, ℕ, Bool, true, false, List, [], ◌∷◌, ◌++◌, length, ◌⊎◌, inl, inr, refl, sym, ◌∙◌, arith}
use Rattle.uring_callers.proofs.Common.{Answer, History, OrAgain, Requests, Setup, World, append-nil, begin_answer, history_of, or_left, world, zip}
use Rattle.uring_files.specs.Contents.{FileContents}
use Rattle.uring_core.specs.CalledFor.{CalledFor, EndsOn, IsLawful}
use Rattle.uring_core.specs.declared.step.Step.{Step}
use Rattle.uring_core.specs.declared.step.Step.TheVariants as step
use Rattle.uring_core.specs.declared.answer.Answer.TheVariants as answer
use Rattle.uring_core.proofs.Following.{history_of_cons}
use Rattle.uring_laws.proofs.WholeLaws.{lawful_before}
use Rattle.uring_callers.specs.Replays.{is_out_of_memory, AreReplays}

-- one answer, or memory was refused for one of the two
abbrev pub AreSame : Answer → Answer → Type 0
AreSame x y = (x ≡ y) ⊎ ((is_out_of_memory x ≡ true) ⊎ (is_out_of_memory y ≡ true))

opened_same : (called x y : Answer) → OrAgain called x → OrAgain called y → AreSame x y
opened_same (answer.Call count) x y p q = grind arith
opened_same _ x y p q = inl (p ∙ sym q)

finished_same : (files : List FileContents) (r : Requests) (n : ℕ) (running : Bool) (x y : Answer)
    → EndsOn files r n running x → EndsOn files r n running y → AreSame x y
finished_same files r n false x y p q = inl (p ∙ sym q)
finished_same files r n true (answer.Ended res bytes) (answer.Ended other more) p q = grind arith
finished_same files r n true (answer.Ended res bytes) _ p q = absurd q
finished_same files r n true _ y p q = absurd p

called_same : (g : Setup) (w : World) (s : Step) (x y : Answer) → CalledFor g w s x
    → CalledFor g w s y → AreSame x y
called_same g w (step.Begin count) x y p q = opened_same (begin_answer w count) x y p q
called_same g w (step.Finish n) x y p q = grind (arith, finished_same)
called_same g w _ x y p q = inl (p ∙ sym q)

-- the same steps after the same history
replayed : (g : Setup) (h : History) (steps : List Step) (xs ys : List Answer)
    → length xs ≡ length steps → length ys ≡ length steps
    → IsLawful g (history_of (zip steps xs) ++ h) → IsLawful g (history_of (zip steps ys) ++ h)
    → AreReplays xs ys
replayed g h [] [] [] m n p q = inl refl
replayed g h (s ∷ steps) (x ∷ xs) (y ∷ ys) m n p q =
    let one : IsLawful g (history_of (zip steps xs) ++ (s, x) ∷ h) = rw history_of_cons at p in
    let two : IsLawful g (history_of (zip steps ys) ++ (s, y) ∷ h) = rw history_of_cons at q in
    let first = (lawful_before g (history_of (zip steps xs)) ((s, x) ∷ h) one).0 in
    let second = (lawful_before g (history_of (zip steps ys)) ((s, y) ∷ h) two).0 in
    elim (called_same g (world g h) s x y first second) [
      | inl same ↦ grind (arith, (replayed g ((s, x) ∷ h) steps xs ys (omega (arith, m)) (omega (arith, n)) one (rw (← same) at two)))
      | inr refused ↦ grind (arith, or_left)
    ]
replayed g h _ _ _ m n p q = absurd (omega (arith, m, n))

-- the same steps from the beginning
pub replayed_anew : (g : Setup) (steps : List Step) (xs ys : List Answer) → length xs ≡ length steps
    → length ys ≡ length steps → IsLawful g (history_of (zip steps xs))
    → IsLawful g (history_of (zip steps ys)) → AreReplays xs ys
replayed_anew g steps xs ys m n p q = replayed g [] steps xs ys m n (rw append-nil p) (rw append-nil q)
