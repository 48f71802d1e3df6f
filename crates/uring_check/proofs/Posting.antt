-- Whose completions were posted.
use Rattle.std.proofs.Common.{◌≡◌, ℕ, Bool, List, [], ◌∷◌, ◌++◌, length, append-nil, arith}
use Rattle.uring_check.proofs.Common.{Answer, History, IsLawfulApart, Only, Setup, Step, Wanted, World, entry_of, if◌then◌else◌, length-append, noted_poster, number_in, poster_of, posters, resumed, world}
use Rattle.uring_entry.specs.Completions.{Completions, completion_for, with_posted}
use Rattle.uring_entry.specs.Layout.{Cqe}
use Rattle.uring_rules.specs.Rules.{posts}
use Rattle.uring_core.specs.Events.{end_told_by}
use Rattle.uring_core.specs.declared.wanted.Refusal.TheVariants as refusal
use Rattle.uring_core.proofs.CompletionMoves.{CompletionMove, stays, ends, completion_move}

-- ---- what one step posts

end_noted : (s : Step) (size n : ℕ) (l : Completions) (c : Cqe) (posts : Bool)
    → number_in s ≡ n ∷ []
    → noted_poster s (length l.posted) (length (if posts then with_posted size l c else l).posted)
    ≡ (if posts then n ∷ [] else [])
end_noted s size n l c posts is = grind (arith, length-append)

noted_by : (g : Setup) (w : World) (s : Step) (a : Answer) (v : World) → CompletionMove g w s a v
    → noted_poster s (length w.completions.posted) (length v.completions.posted)
    ≡ poster_of g.linux w.requests (end_told_by (s, a))
noted_by g w s a v (stays _ _ l r is_closed off none left) = rw none (grind arith)
noted_by g w s a v (ends _ _ n res bytes r off is same one) =
    rw is (end_noted s g.cq n w.completions (completion_for (entry_of w.requests n) res bytes) (posts g.linux w.requests n res) (grind (arith, is)))
noted_by g w s a v _ = grind arith

-- ---- what is known after a step

-- a step that was made
pub knows_step : (g : Setup) (s : Step) (a : Answer) (h : History) (known later : List ℕ) (before after : ℕ)
    → IsLawfulApart g ((s, a) ∷ h) → known ≡ posters g h
    → before ≡ length (world g h).completions.posted
    → after ≡ length (world g ((s, a) ∷ h)).completions.posted
    → later ≡ known ++ noted_poster s before after → later ≡ posters g ((s, a) ∷ h)
knows_step g s a h known later before after lawful is was now more =
    grind (arith, (noted_by g (world g h) s a (world g ((s, a) ∷ h)) (completion_move g s a h lawful)))

-- after a wrong answer
pub knows_resumed : (g : Setup) (s : Step) (wanted : Wanted) (h : History) (known later : List ℕ) (before after : ℕ)
    → IsLawfulApart g (resumed s (refusal.Wrong wanted) h) → known ≡ posters g h
    → before ≡ length (world g h).completions.posted
    → after ≡ length (world g (resumed s (refusal.Wrong wanted) h)).completions.posted
    → later ≡ known ++ noted_poster s before after
    → later ≡ posters g (resumed s (refusal.Wrong wanted) h)
knows_resumed g s (Only x) h known later before after lawful is was now more = knows_step g s x h known later before after lawful is was now more
knows_resumed g s _ h known later before after lawful is was now more = grind (arith, append-nil)
