-- The text of whom a cancel of all chooses.
use Rattle.std.proofs.Common.{◌≡◌, ℕ, ◌+◌, Bool, not, ◌&&◌, List, [], ◌∷◌, ◌++◌, Some, refl, sym, ap, ◌∙◌, append_assoc, arith}
use Rattle.uring_trace.proofs.Common.{Requests, Sqe, Why, addr_of, append-nil, codes, decimal, entry_of, entry_outstanding, if◌then◌else◌, is_open, is_target, length, said, spaced, targets_of, user_data_of, ◌==◌}
use Rattle.uring_entry.specs.Below.{all_below}
use Rattle.uring_entry.specs.Why.{why_of}

-- ---- numbers after spaces

pub spaced_more : (xs ys : List ℕ) → spaced (xs ++ ys) ≡ spaced xs ++ spaced ys
spaced_more [] ys = refl
spaced_more (x ∷ xs) ys = ap (λ (l : List ℕ). codes " " ++ decimal x ++ l) (spaced_more xs ys) ∙ sym (append_assoc (codes " " ++ decimal x) (spaced xs) (spaced ys))

-- a target more

said_more : (xs : List ℕ) (n : ℕ) → (xs ≡ [] → ⊥)
    → said (xs ++ n ∷ []) ≡ said xs ++ codes " " ++ decimal n
said_more xs n some = grind (arith, append-nil, append_assoc, spaced_more)

pub said_next : (xs old new : List ℕ) (n : ℕ) → old ≡ said xs → (old ≡ [] → ⊥)
    → new ≡ old ++ codes " " ++ decimal n → new ≡ said (xs ++ n ∷ [])
said_next xs old new n is some more = grind (arith, said_more)

-- the targets below the next number
pub targets_more : (r : Requests) (n k : ℕ) (is : Bool) (after : List ℕ) → is ≡ is_target r n k
    → after ≡ said (all_below (is_target r n) k ++ (if is then k ∷ [] else []))
    → after ≡ said (all_below (is_target r n) (k + 1))
targets_more r n k is after same so = grind arith

-- all of them
pub targets_all : (r : Requests) (n m : ℕ) (text : List ℕ) → m ≡ length r.accepted
    → text ≡ said (all_below (is_target r n) m) → text ≡ said (targets_of r n)
unfolding targets_of
targets_all r n m text same is = is ∙ ap (λ (k : ℕ). said (all_below (is_target r n) k)) same

-- ---- who is a target

-- a request with an entry is a target as its entry and its standing tell
pub target_told : (r : Requests) (n m sought : ℕ) (found : Sqe) (why : Why) (is : Bool)
    → sought ≡ addr_of (entry_of r n) → entry_outstanding r m ≡ Some found → why ≡ why_of r m
    → is ≡ (not (m == n) && (user_data_of found == sought) && is_open why) → is ≡ is_target r n m
target_told r n m sought found why is of there stands told = grind arith
