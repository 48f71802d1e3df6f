-- What ends of requests and a delivery leave of the rings: ends leave them as they were, but for what is posted.
use Rattle.std.proofs.Common.{◌≡◌, ℕ, ◌+◌, ◌-◌, ◌≤◌, List, length, refl, sym, subst, arith, min}
use Rattle.uring_threads.proofs.Common.{Answer, Cqe, DeliversMost, Grows, IsDelivered, IsUnmoved, KeepsAllBut, Kept, OnlyPosts, Setup, World, happens, now, on_completions, with_flushed, with_head_stored, with_reaped_all, with_tail_loaded}
use Rattle.uring_core.specs.declared.step.Step.TheVariants as step
use Rattle.uring_threads.proofs.TraceSteps.{grown, unmoved_now}

-- the Issue or the end of a request posts a completion, or none
pub posts_only : (g : Setup) (w : World) (n : ℕ) (x : Answer)
    → OnlyPosts w (happens g w (step.Issue n) x) × OnlyPosts w (happens g w (step.Finish n) x)
posts_only g w n x = grind arith

pub posts_then : (w v u : World) → OnlyPosts w v → OnlyPosts v u → OnlyPosts w u
posts_then w v u p q = grind arith

-- A row of a delivery: flush, load the tail, reap so many, store the head.
module _ (a room flushed loaded reaped b : Kept) (x y z : Answer) (all : List Cqe) (u : IsUnmoved a room) (flush : Grows room flushed (step.Flush, x)) (load : Grows flushed loaded (step.LoadCqTail, y))
    (reap : now reaped ≡ on_completions (now loaded) (with_reaped_all (now loaded).completions all)) (store : Grows reaped b (step.StoreCqHead, z)) where
  row : now b ≡ on_completions (now a) (with_head_stored (with_reaped_all (with_tail_loaded (with_flushed room.setup.cq (now a).completions)) all))
  row = simp (grown reaped b step.StoreCqHead z store, reap, grown flushed loaded step.LoadCqTail y load, grown room flushed step.Flush x flush, unmoved_now a room u)

  pub row_keeps : KeepsAllBut (now a) (now b)
  row_keeps = subst (λ w. KeepsAllBut (now a) w) (sym row) (record { submission = refl; requests = refl; drains = refl; is_closed = refl; posted = refl })

  pub row_delivers : IsDelivered (now b).completions all
  row_delivers = subst (λ (w : World). IsDelivered w.completions all) (sym row) (record { reaped = refl; head = refl })

  -- the least was delivered of what waited, of what there was space for, and of what the ring holds
  pub row_most : (posted reaped space free size n : ℕ) → reaped ≤ posted
      → n ≡ min (min (posted - reaped) space) size
      → free + n ≡ space → length all ≡ reaped + n → length (now a).completions.posted ≡ posted
      → DeliversMost (now b).completions free size n
  row_most posted reaped space free size n order least left grown many = grind (arith, row)
