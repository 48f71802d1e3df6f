-- What a walk comes to.
use Rattle.std.specs.Prelude.{◌≡◌, ◌≤◌, ℕ, List, [], ◌∷◌, ◌++◌, length, Contains}
use Rattle.uring_walk.specs.Paths.{IsPath, AreOnce}
use Rattle.uring_walk.specs.declared.visits.End.{End}
use Rattle.uring_walk.specs.declared.visits.End.TheVariants.{All, Found, Limit}

-- none of these paths is sought
abbrev pub AreUnsought : {M : Type 0} → (List M → Type 0) → List (List M) → Type 0
AreUnsought sought paths = (path : _) → Contains paths path → sought path → ⊥

-- the path that was visited last is sought, and none before it
pub record EndsSought {M : Type 0} (sought : List M → Type 0) (seen : List (List M)) : Type 0 where
  pub before : List (List M)
  pub path : List M
  pub is : seen ≡ before ++ path ∷ []
  pub is_sought : sought path
  pub others : AreUnsought sought before

-- a path can be made that wasn't visited
pub record IsLeft {M : Type 0} (can : List M → M → Type 0) (seen : List (List M)) : Type 0 where
  pub path : List M
  pub is_path : IsPath can path
  pub unseen : Contains seen path → ⊥

-- How a walk ended: each path was visited that is due, and none is sought; the last one is sought; or so many were visited, none is sought, and one is left.
abbrev pub EndsBy : {M : Type 0} → (due can : List M → M → Type 0) → (sought : List M → Type 0) → (most : ℕ)
    → List (List M) → End → Type 0
EndsBy due can sought most seen All = ((path : _) → IsPath due path → Contains seen path) × AreUnsought sought seen
EndsBy due can sought most seen Found = EndsSought sought seen
EndsBy due can sought most seen Limit = (length seen ≡ most) × IsLeft can seen × AreUnsought sought seen

-- A walk: it visited these paths, so many at most and each once, and each of them can be made; and it ended for its reason.
pub record IsWalked {M : Type 0} (due can : List M → M → Type 0) (sought : List M → Type 0) (most : ℕ) (seen : List (List M)) (end : End) : Type 0 where
  pub once : AreOnce seen
  pub right : (path : List M) → Contains seen path → IsPath can path
  pub few : length seen ≤ most
  pub ends : EndsBy due can sought most seen end
