-- Which bytes of a message's vectors are next, after a part of them: those that weren't moved, in their order. readv(2), struct iovec; recv(2), MSG_WAITALL.
use Rattle.std.specs.Prelude.{◌≡◌, ℕ, zero, suc, ℤ, pos, negsuc, ◌+◌, ◌-◌, min, List, [], ◌∷◌, ◌++◌, drop}
use Rattle.uring_operations.specs.declared.calls.advance.Vector.{Vector}
use Rattle.uring_operations.specs.declared.calls.advance.Rest.{Rest}

-- a call that came to an error has moved none
abbrev pub moved_by : ℤ → ℕ
moved_by (pos moved) = moved
moved_by (negsuc _) = 0

-- so many of those that were moved are a vector's
abbrev pub part_of : Vector → (moved : ℕ) → ℕ
part_of v moved = min moved v.size

-- what is left of a vector after those that are its own, and how many are left for the ones after it
abbrev pub rest_of : Vector → (moved : ℕ) → Rest
rest_of v moved = record {
  vector = record { from = v.from + part_of v moved; size = v.size - part_of v moved };
  moved = moved - part_of v moved;
}

-- each vector moved on in turn
abbrev pub left_of : List Vector → (moved : ℕ) → List Vector
left_of [] moved = []
left_of (v ∷ later) moved = (rest_of v moved).vector ∷ left_of later (rest_of v moved).moved

-- where so many bytes stand, from there on, in their order
abbrev pub places_from : (from size : ℕ) → List ℕ
places_from from zero = []
places_from from (suc size) = from ∷ places_from (suc from) size

-- where the bytes of vectors stand, in the order in which they are moved
abbrev pub places : List Vector → List ℕ
places [] = []
places (v ∷ later) = places_from v.from v.size ++ places later

-- so none is moved twice, and none is left out
abbrev pub LeavesWhatIsAfter : Type 0
LeavesWhatIsAfter = (vectors : List Vector) (moved : ℕ)
    → places (left_of vectors moved) ≡ drop moved (places vectors)
