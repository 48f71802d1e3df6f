-- Lanes that stay the same, as they are looked at and as jobs and results go through them.
use Rattle.std.proofs.Common.{◌≡◌, ◌≢◌, ℕ, ◌<◌, List, length, get_or, arith}
use Rattle.uring_threads.proofs.Common.{AreSameLanes, IsSent, Job, OnlyReceives, WorkLanes, get_or-set_other, get_or-set_same, get_or_default, length-set, set}

-- what holds of one element that is set, and of each other as it was
pub set_cases : {X : Type 0} (P : ℕ → X → Type 0) (xs : List X) (i : ℕ) (x : X) (k : ℕ) (d : X)
    → i < length xs → P i x → (k ≢ i → P k (get_or xs k d)) → P k (get_or (set xs i x) k d)
set_cases P xs i x k d low here others = grind (arith, get_or-set_same, get_or-set_other)

-- lanes that nothing went through
pub lanes_none : (lanes : List WorkLanes) → AreSameLanes lanes lanes
lanes_none lanes = grind arith

-- the same lanes twice
pub lanes_then : (a b c : List WorkLanes) → AreSameLanes a b → AreSameLanes b c → AreSameLanes a c
lanes_then a b c p q = grind arith

-- lanes from which results were received, in their place
pub lanes_set : (lanes : List WorkLanes) (place : ℕ) (y d : WorkLanes) → place < length lanes
    → OnlyReceives (get_or lanes place d) y → AreSameLanes lanes (set lanes place y)
lanes_set lanes place y d low receives =
    grind (arith, length-set, get_or_default, get_or-set_same, get_or-set_other)

-- lanes of which one was sent a job
pub lanes_sent : (old new : List WorkLanes) (place : ℕ) (j : Job) → length new ≡ length old
    → ((d : WorkLanes) → IsSent j (get_or old place d) (get_or new place d))
    → ((k : ℕ) (d : WorkLanes) → k < length old → k ≢ place → get_or new k d ≡ get_or old k d)
    → AreSameLanes old new
lanes_sent old new place j many sent others = grind arith

-- results were received twice
pub receives_then : (a b c : WorkLanes) → OnlyReceives a b → OnlyReceives b c → OnlyReceives a c
receives_then a b c p q = grind arith
