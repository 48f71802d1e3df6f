-- The completion ring's lists, read off a history.
use Rattle.std.proofs.Common.{◌≡◌, ℕ, Bool, [], ◌∷◌, if◌then◌else◌, refl, rules, arith}
use Rattle.uring_laws.proofs.Common.{Answer, Completions, Cqe, Event, History, IsLawfulApart, Setup, Step, World, is_load_cq_tail, with_end_of, with_posted, world}
use Rattle.uring_laws.specs.Direct.{before_last, reaps as reaps_in, stored_head, flushed_head}
use Rattle.uring_core.proofs.CompletionMoves.{CompletionMove, stays, ends, completion_move, IsOffCompletions}

pub record DirectCompletions (g : Setup) (h : History) (l : Completions) : Type 0 where
  pub reaped : l.reaped ≡ reaps_in h
  pub stored : l.head ≡ stored_head h
  pub flushed : l.seen_head ≡ flushed_head h
  pub seen : l.seen_tail ≡ (world g (before_last is_load_cq_tail h)).completions.put

-- an event that tells nothing of them leaves them as they are
still_direct : (g : Setup) (h : History) (e : Event) (l : Completions) → IsOffCompletions e
    → DirectCompletions g h l → DirectCompletions g (e ∷ h) l
still_direct g h e l off i = search rules

-- nor does a completion that is posted, or isn't
posted_direct : (g : Setup) (h : History) (posts : Bool) (size : ℕ) (l : Completions) (c : Cqe)
    → DirectCompletions g h l → DirectCompletions g h (if posts then with_posted size l c else l)
posted_direct g h posts size l c i = grind arith

completions_direct : (g : Setup) (h : History) (w : World) (s : Step) (a : Answer) (v : World)
    → CompletionMove g w s a v → w ≡ world g h → DirectCompletions g h w.completions
    → DirectCompletions g ((s, a) ∷ h) v.completions
completions_direct g h w s a v (stays _ _ l r is_closed off no_end left) is i = search rules
completions_direct g h w s a v (ends _ _ n res bytes r off told same_accepted one_more) is i =
    still_direct g h (s, a) (with_end_of g w n res bytes) off (posted_direct g h _ g.cq w.completions _ i)
completions_direct g h w s a v _ is i = search rules

pub direct_completions : (g : Setup) (h : History) → IsLawfulApart g h
    → DirectCompletions g h (world g h).completions
direct_completions g [] lawful = search rules
direct_completions g ((s, a) ∷ before) lawful = completions_direct g before (world g before) s a _ (completion_move g s a before lawful) refl (direct_completions g before lawful.1)
