-- What a follower that fits a history never wants, so that the judge of an end refuses for want of memory alone.
use Rattle.std.proofs.Common.{◌≡◌, ◌≤◌, ℕ, ℤ, ◌∷◌, pos, Bool, true, false, List, [], refl, arith, sym, ◌∙◌}
use Rattle.uring_check.proofs.Common.{AllowedBy, Answer, AnyEnd, CalledIn, EndOrNoMemory, Ends, Follower, History, IsEnded, IsWanted, IsWrong, MayGive, Setup, Step, entry_in, is_apart, no_bytes, rules_of, true≢false, world}
use Rattle.uring_core.specs.declared.answer.Answer.TheVariants as answer
use Rattle.uring_core.specs.declared.step.Step.TheVariants as step
use Rattle.uring_check.specs.declared.ends.Ends.TheVariants as ends
use Rattle.uring_check.proofs.WantedAnswers.{one_answer}

-- ---- any end

abbrev end_with : List ℕ → Answer
end_with bytes = answer.Ended (pos 0) bytes

-- a step of which every end is called for is the Finish of a request without files
any_called : (apart : Bool) (g : Setup) (h : History) (s : Step)
    → ((a : Answer) → IsEnded a → CalledIn apart g (world g h) s a) → (apart ≡ true) × (n : ℕ) × (s ≡ step.Finish n)
any_called true g h (step.Finish n) any = (refl, n, refl)
any_called false g h (step.Finish n) any = grind (arith, (any (end_with []) tt), (any (end_with (0 ∷ [])) tt))
any_called apart g h (step.Begin count) any = absurd (grind (arith, (any (end_with []) tt)))
any_called apart g h s any =
    absurd (cc (one_answer apart g (world g h) s (end_with []) (end_with (0 ∷ [])) tt (any (end_with []) tt) (any (end_with (0 ∷ [])) tt)))

-- any end is wanted of a Finish alone
pub any_finishes : (m : Follower) (s : Step) (h : History) → IsWanted h m s AnyEnd
    → ((n : ℕ) → s ≡ step.Finish n → ⊥) → ⊥
any_finishes m s h is none =
    let any = any_called (is_apart (rules_of m).ends) (rules_of m).setup h s is.0.only in none any.1 any.2

-- and without files
pub any_apart : (m : Follower) (s : Step) (h : History) → IsWanted h m s AnyEnd
    → is_apart (rules_of m).ends ≡ false → ⊥
any_apart m s h is off = true≢false (sym (any_called (is_apart (rules_of m).ends) (rules_of m).setup h s is.0.only).0 ∙ off)

-- without files no two ends alone are wanted, so results need not be allowed where they are
pub either_allowed : (m : Follower) (s : Step) (h : History) (res : ℤ) (x : Answer)
    → IsWanted h m s (EndOrNoMemory res) → AllowedBy (rules_of m) h s x
either_allowed m s h res x is = go x (rules_of m).ends s is.0
  where
    go : (y : Answer) (e : Ends) (t : Step) → IsWrong (CalledIn (is_apart e) (rules_of m).setup (world (rules_of m).setup h) t) answer.Filled (EndOrNoMemory res) → MayGive y (entry_in e (world (rules_of m).setup h).requests t)
    go (answer.Ended z bytes) ends.Allowed (step.Finish n) w = absurd (grind (arith, (w.called (end_with (0 ∷ []))), (w.only (answer.Ended res no_bytes))))
    go _ _ _ w = tt

-- so many elements suffice
pub at_most : (n : ℕ) → n ≤ n
at_most n = omega arith
