-- Glue. Where a walk is, between two visits.
use Rattle.std.specs.Prelude.{◌≡◌, ◌≤◌, ◌⊎◌, ℕ, Bool, true, false, List, [], ◌∷◌, ◌++◌, length, map, Option, Some, None, Contains}
use Rattle.uring_walk.specs.Paths.{IsPath, AreOnce, AreNext}
use Rattle.uring_walk.specs.Walks.{AreUnsought}

-- a list begins with another
pub record Begins {M : Type 0} (path with : List M) : Type 0 where
  pub rest : List M
  pub is : path ≡ with ++ rest

-- a path begins with one of these
pub record BeginsIn {M : Type 0} (todo : List (List M)) (path : List M) : Type 0 where
  pub first : List M
  pub there : Contains todo first
  pub begins : Begins path first

-- two paths part: after the same moves another one comes
pub record Part {M : Type 0} (one other : List M) : Type 0 where
  pub common : List M
  pub mine : M
  pub its : M
  pub differ : mine ≡ its → ⊥
  pub rest : List M
  pub its_rest : List M
  pub is : one ≡ common ++ mine ∷ rest
  pub its_is : other ≡ common ++ its ∷ its_rest

abbrev pub ArePart : {M : Type 0} → List (List M) → Type 0
ArePart [] = Unit {0}
ArePart (one ∷ others) = ((other : _) → Contains others other → Part one other) × ArePart others

-- Between two visits: each path was visited or begins with one that is still to be visited, and none begins with two of these, or was visited and begins with one.
pub record IsAmid {M : Type 0} (due can : List M → M → Type 0) (sought : List M → Type 0) (todo seen : List (List M)) : Type 0 where
  pub covered : (path : List M) → IsPath due path → Contains seen path ⊎ BeginsIn todo path
  pub right : (path : List M) → Contains seen path → IsPath can path
  pub may : (path : List M) → Contains todo path → IsPath can path
  pub once : AreOnce seen
  pub part : ArePart todo
  pub fresh : (path first : List M) → Contains seen path → Contains todo first → Begins path first → ⊥
  pub unsought : AreUnsought sought seen

-- each of these spots keeps the path in its place
abbrev pub AreKept : {M S : Type 0} → (S → List M → Type 0) → List S → List (List M) → Type 0
AreKept keeps [] [] = Unit {0}
AreKept keeps (spot ∷ spots) (path ∷ paths) = keeps spot path × AreKept keeps spots paths
AreKept keeps [] (path ∷ paths) = ⊥
AreKept keeps (spot ∷ spots) [] = ⊥

-- a place at the last of these paths, and spots that keep the others
pub record StandsLast {M P S : Type 0} (stands : P → List M → Type 0) (keeps : S → List M → Type 0) (place : P) (spots : List S) (paths : List (List M)) : Type 0 where
  pub before : List (List M)
  pub path : List M
  pub is : paths ≡ before ++ path ∷ []
  pub at : stands place path
  pub kept : AreKept keeps spots before

-- a place, if there is one, is at the last of these paths, and spots keep the others
abbrev pub Waits : {M P S : Type 0} → (P → List M → Type 0) → (S → List M → Type 0) → Option P → List S → List (List M) → Type 0
Waits stands keeps None spots paths = AreKept keeps spots paths
Waits stands keeps (Some place) spots paths = StandsLast stands keeps place spots paths

-- where a walk's function is: between two visits, with so many behind it, and no more than so many
pub record IsAt {M P S N : Type 0} (due can : List M → M → Type 0) (sought : List M → Type 0) (stands : P → List M → Type 0) (keeps : S → List M → Type 0) (noted : N → List (List M) → Type 0) (here : Option P) (spots : List S) (notes : N) (most count : ℕ) : Type 0 where
  pub todo : List (List M)
  pub seen : List (List M)
  pub amid : IsAmid due can sought todo seen
  pub waits : Waits stands keeps here spots todo
  pub notes_are : noted notes seen
  pub many : length seen ≡ count
  pub few : count ≤ most

-- a path was visited: those that wait are the others, and it with each of the moves that come next
pub record Takes {M P S : Type 0} (due can : List M → M → Type 0) (sought : List M → Type 0) (stands : P → List M → Type 0) (keeps : S → List M → Type 0) (before : List (List M)) (path : List M) (here : Option P) (spots : List S) (found : Bool) : Type 0 where
  pub moves : List M
  pub next : AreNext (due path) (can path) moves
  pub waits : Waits stands keeps here spots (before ++ map (λ x. path ++ x ∷ []) moves)
  pub is_sought : found ≡ true → sought path
  pub unsought : found ≡ false → sought path → ⊥

-- if there are moves, the place is one after which each of them can be made
pub record Goes {M P : Type 0} (can : List M → M → Type 0) (stands : P → List M → Type 0) (place : P) (moves : List M) : Type 0 where
  pub path : List M
  pub at : (x : M) → Contains moves x → stands place path
  pub each : (x : M) → Contains moves x → can path x
