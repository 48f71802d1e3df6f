-- The text of what is shown.
use Rattle.std.proofs.Common.{◌≡◌, Bool, ℕ, zero, suc, ◌+◌, List, [], ◌∷◌, ◌++◌, Option, Result, take, refl, ap, ◌∙◌, append_assoc, arith}
use Rattle.uring_trace.proofs.Common.{Cqe, OnOk, Some, Sqe, Why, append-nil, entry_outstanding, list_text, listed_text, on_ok_weaker, row_text, rows_below, slice_get}
use Rattle.uring_linux.specs.LinuxRequests.{LinuxRequests}
use Rattle.uring_rules.specs.Rules.{why_of}

-- one part more
pub part_after : {E : Type 0} (r : Result (Unit {0}) E) (old one new u v : List ℕ) → one ≡ old ++ u
    → OnOk r (new ≡ one ++ v) → OnOk r (new ≡ old ++ (u ++ v))
part_after r old one new u v first = on_ok_weaker r (λ last. last ∙ ap (λ (t : List ℕ). t ++ v) first ∙ append_assoc old u v)

-- one completion more
pub list_more : (cs : List Cqe) (i : ℕ)
    → list_text (take (suc i) cs) ≡ list_text (take i cs) ++ listed_text (slice_get cs i)
list_more [] zero = refl
list_more [] (suc i) = refl
list_more (c ∷ cs) zero = append-nil (listed_text (Some c))
list_more (c ∷ cs) (suc i) = grind (arith, (list_more cs i), append_assoc)

-- a text with one completion more
pub overflow_more : (cs : List Cqe) (place : ℕ) (o : Option Cqe) (front so after : List ℕ)
    → so ≡ front ++ list_text (take place cs) → after ≡ so ++ listed_text o → o ≡ slice_get cs place
    → after ≡ front ++ list_text (take (place + 1) cs)
overflow_more cs place o front so after a b is = grind (arith, list_more, append_assoc)

-- one request more
pub rows_more : (linux : Bool) (l : LinuxRequests) (n : ℕ) (e : Option Sqe) (why : Why) (front so after : List ℕ)
    → so ≡ front ++ rows_below linux l n → after ≡ so ++ row_text n e why
    → e ≡ entry_outstanding l.requests n → why ≡ why_of linux l n
    → after ≡ front ++ rows_below linux l (n + 1)
rows_more linux l n e why front so after a b entry is = grind (arith, append_assoc)
