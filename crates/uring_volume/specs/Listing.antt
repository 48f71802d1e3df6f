-- The images of a file as a list: each once, and nothing else. Our own rule.
use Rattle.std.specs.Prelude.{◌≡◌, ℕ, List, [], ◌∷◌, length}
use Rattle.uring_volume.specs.Events.{History}
use Rattle.uring_volume.specs.Images.{IsIn, IsImage}

-- none of these stands twice in the list
abbrev pub IsEachOnce : {X : Type 0} → List X → Type 0
IsEachOnce [] = Unit {0}
IsEachOnce (x ∷ others) = (IsIn x others → ⊥) × IsEachOnce others

-- These are the images: each stands in the list, once, and nothing else does.
pub record AreTheImages (u : ℕ) (first : List ℕ) (h : History) (images : List (List ℕ)) : Type 0 where
  pub sound : (now : List ℕ) → IsIn now images → IsImage u first h now
  pub complete : (now : List ℕ) → IsImage u first h now → IsIn now images
  pub once : IsEachOnce images

-- two lists of the images of a file are as long
abbrev pub ListsAreAsLong : Type 0
ListsAreAsLong = (u : ℕ) (first : List ℕ) (h : History) (some others : List (List ℕ))
    → AreTheImages u first h some → AreTheImages u first h others → length some ≡ length others
