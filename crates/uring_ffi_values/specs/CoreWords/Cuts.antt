-- A list that C gives in one piece.
use Rattle.std.specs.Prelude.{ℕ, List, [], ◌∷◌, take, drop}

-- a list cut into parts of these lengths, one after another; what is left over is left out
abbrev pub cut : {X : Type 0} → List ℕ → List X → List (List X)
cut [] all = []
cut (n ∷ more) all = take n all ∷ cut more (drop n all)
