-- The parts of a graph, one by one.
use Rattle.std.proofs.Common.{◌≡◌, ℕ, ◌+◌, List, [], ◌++◌, Bool, not, ◌||◌, Option, Some, None, refl, append_assoc, arith}
use Rattle.uring_pictures.proofs.Common.{Requests, Sqe, arrows_text, call_of, codes, decimal, entry_outstanding, first_of, if◌then◌else◌, in_chain, is_last, is_some, member_before, node_text, placed_text, row_text}
use Rattle.std.proofs.lemmas.List.{append-nil}
use Rattle.std.specs.Prelude.{nat_lt}
use Rattle.uring_linux.specs.LinuxRequests.{LinuxRequests}
use Rattle.uring_rules.specs.Rules.{why_of}
use Rattle.uring_entry.specs.declared.why.Since.{Since}
use Rattle.uring_entry.specs.declared.why.Since.TheVariants.{SameGroup, ItDrains, OwnDrains, Deferred}
use Rattle.uring_entry.specs.declared.why.Why.{Why}
use Rattle.uring_entry.specs.declared.why.Why.TheVariants.{Waits}
use Rattle.uring_pictures.specs.Graphs.{chain_arrow}

-- what stands in a cluster, whose beginning has five parts, and in two
pub framed : (old so on new p q r s t part end : List ℕ) → so ≡ old ++ (p ++ (q ++ (r ++ (s ++ t))))
    → on ≡ so ++ part → new ≡ on ++ end → new ≡ old ++ (p ++ q ++ r ++ s ++ t ++ part ++ end)
framed old so on new p q r s t part end a b is = grind (arith, append_assoc)

pub framed_twice : (old so on new p q r s t u v w x y part end last : List ℕ)
    → so ≡ old ++ (p ++ (q ++ (r ++ (s ++ (t ++ (u ++ (v ++ (w ++ (x ++ y))))))))) → on ≡ so ++ part
    → new ≡ on ++ (end ++ last)
    → new ≡ old ++ (p ++ q ++ r ++ s ++ t ++ (u ++ v ++ w ++ x ++ y ++ part ++ end) ++ last)
framed_twice old so on new p q r s t u v w x y part end last a b is = grind (arith, append_assoc)

-- the parts of a node: its label and the flags of that are parts of their own
pub node_parts : (a b c d e f g p q r s t h i j k l : List ℕ)
    → a ++ (b ++ (c ++ (d ++ (e ++ (f ++ (g ++ (p ++ (q ++ (r ++ (s ++ (t ++ (h ++ (i ++ (j ++ (k ++ l))))))))))))))) ≡ a ++ b ++ c ++ d ++ (e ++ f ++ g ++ (p ++ q ++ r ++ s ++ t) ++ h ++ i ++ j ++ k) ++ l
node_parts a b c d e f g p q r s t h i j k l = simp append_assoc refl

-- the parts of an arrow
pub arrow_parts : (a b c d e : List ℕ) → a ++ (b ++ (c ++ (d ++ (e ++ [])))) ≡ a ++ b ++ c ++ d ++ e
arrow_parts a b c d e = simp (append_assoc, append-nil)

-- the first member of the next request's chain
pub first_next : (r : Requests) (n : ℕ) (last : Bool) (first : ℕ) → last ≡ is_last r n → first ≡ first_of r n
    → (if last then n + 1 else first) ≡ first_of r (n + 1)
first_next r n last first is same = grind arith

-- the outstanding member before the next request
pub before_next : (r : Requests) (n : ℕ) (last some : Bool) (before : Option ℕ) → last ≡ is_last r n
    → some ≡ is_some (entry_outstanding r n) → before ≡ member_before r n
    → (if last then None else if some then Some n else before) ≡ member_before r (n + 1)
before_next r n last some before is has same = grind arith

-- the line of a request, by what is asked of it
pub row_placed : (linux : Bool) (l : LinuxRequests) (n : ℕ) (e : Sqe) (call first : ℕ) (last : Bool) (why : Why) (before after : List ℕ)
    → after ≡ before ++ placed_text call (in_chain (not last || nat_lt first n) first (node_text n e why))
    → call ≡ call_of l.requests n → first ≡ first_of l.requests n → last ≡ is_last l.requests n
    → why ≡ why_of linux l n → Some e ≡ entry_outstanding l.requests n
    → after ≡ before ++ row_text linux l n
row_placed linux l n e call first last why before after is calls same ends stands found =
    rw (← found, ← calls, ← same, ← ends, ← stands) is

-- the arrows from a request that waits for one of another group
pub both_arrows : (old on new : List ℕ) (n m : ℕ) (before : Option ℕ) (since : Since) → (since ≡ SameGroup → ⊥)
    → on ≡ old ++ chain_arrow n before
    → new ≡ on ++ (codes "  " ++ decimal n ++ codes " -> " ++ decimal m ++ codes " [style=dashed];\n")
    → new ≡ old ++ arrows_text n before (Waits m since)
both_arrows old on new n m before SameGroup other chain line = absurd (other refl)
both_arrows old on new n m before ItDrains other chain line = rw (line, chain) (append_assoc old _ _)
both_arrows old on new n m before OwnDrains other chain line = rw (line, chain) (append_assoc old _ _)
both_arrows old on new n m before Deferred other chain line = rw (line, chain) (append_assoc old _ _)
