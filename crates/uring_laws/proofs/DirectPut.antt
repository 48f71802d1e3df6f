-- How many completions were put into the ring, read off a history.
use Rattle.std.proofs.Common.{◌≡◌, Bool, [], ◌∷◌, refl, arith}
use Rattle.uring_laws.proofs.Common.{Answer, Event, History, IsLawfulApart, Setup, Step, World, before_last, posts_told, put_count, world}
use Rattle.uring_core.proofs.CompletionMoves.{CompletionMove, stays, ends, flushes, completion_move}
use Rattle.uring_laws.proofs.DirectCompletions.{direct_completions}

-- The completions that the events told to be posted.

posts_direct : (g : Setup) (h : History) (s : Step) (a : Answer) (v : World)
    → CompletionMove g (world g h) s a v → (world g h).completions.posted ≡ posts_told g h
    → v.completions.posted ≡ posts_told g ((s, a) ∷ h)
posts_direct g h s a v (stays _ _ l r is_closed off no_end left) i = rw no_end i
posts_direct g h s a v (ends _ _ n res bytes r off told same_accepted one_more) i = grind arith
posts_direct g h s a v _ i = i

pub posted_told : (g : Setup) (h : History) → IsLawfulApart g h
    → (world g h).completions.posted ≡ posts_told g h
posted_told g [] lawful = refl
posted_told g ((s, a) ∷ before) lawful = posts_direct g before s a _ (completion_move g s a before lawful) (posted_told g before lawful.1)

-- How many were put.

put_direct : (g : Setup) (h : History) (s : Step) (a : Answer) (v : World) → IsLawfulApart g h
    → CompletionMove g (world g h) s a v
    → (world g h).completions.put ≡ put_count g h → v.completions.put ≡ put_count g ((s, a) ∷ h)
put_direct g h s a v lawful (stays _ _ l r is_closed off no_end left) i = rw (off.flushes, no_end) i
put_direct g h s a v lawful (ends _ _ n res bytes r off told same_accepted one_more) i =
    grind (arith, (direct_completions g h lawful), (posted_told g h lawful))
put_direct g h s a v lawful (flushes moved) i = rw (posted_told g h lawful, (direct_completions g h lawful).stored)
put_direct g h s a v lawful _ i = i

pub direct_put : (g : Setup) (h : History) → IsLawfulApart g h
    → (world g h).completions.put ≡ put_count g h
direct_put g [] lawful = refl
direct_put g ((s, a) ∷ before) lawful = put_direct g before s a _ lawful.1 (completion_move g s a before lawful) (direct_put g before lawful.1)

-- what stands before the last event of a kind is lawful
pub lawful_last : (g : Setup) (is_kind : Event → Bool) (h : History) → IsLawfulApart g h
    → IsLawfulApart g (before_last is_kind h)
lawful_last g is_kind [] lawful = tt
lawful_last g is_kind ((s, a) ∷ before) lawful = grind (arith, (lawful_last g is_kind before lawful.1))
