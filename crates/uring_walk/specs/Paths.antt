-- Paths: lists of moves, each of which comes next after those before it.
use Rattle.std.specs.Prelude.{◌≡◌, List, [], ◌∷◌, ◌++◌, Contains, AllPairs}

-- these moves follow a path: each may come next where it is added
abbrev pub Follows : {M : Type 0} → (List M → M → Type 0) → List M → List M → Type 0
Follows may path [] = Unit {0}
Follows may path (first ∷ later) = may path first × Follows may (path ++ first ∷ []) later

-- a path: its moves follow the path of no move
abbrev pub IsPath : {M : Type 0} → (List M → M → Type 0) → List M → Type 0
IsPath may path = Follows may [] path

-- none stands in the list twice
abbrev pub AreOnce : {X : Type 0} → List X → Type 0
AreOnce xs = AllPairs (λ a b. a ≡ b → ⊥) xs

-- The moves that are tried next: each that is due is among them, each of them can come, and none is there twice.
pub record AreNext {M : Type 0} (due can : M → Type 0) (moves : List M) : Type 0 where
  pub all : (x : M) → due x → Contains moves x
  pub right : (x : M) → Contains moves x → can x
  pub once : AreOnce moves
