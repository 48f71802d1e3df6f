-- Blocks and calls, line by line.
use Rattle.std.proofs.Common.{◌≡◌, ℕ, suc, ◌<◌, Bool, List, [], ◌∷◌, ◌++◌, length, refl, ap, arith}
use Rattle.uring_play_text.proofs.Common.{AreCalls, AreItemLines, IsCall, IsItemLine, Item, last_block, length-slice_split, one_call}
use Rattle.std.specs.List.{slice_split}

-- parts, of which the last goes on as the first of others
abbrev pub glue : {X : Type 0} → List (List X) → List (List X) → List (List X)
glue (a ∷ []) (b ∷ bs) = (a ++ b) ∷ bs
glue (a ∷ c ∷ parts) bs = a ∷ glue (c ∷ parts) bs
glue _ bs = bs

pub glued : {X : Type 0} (ended : List (List X)) (last b : List X) (bs : List (List X))
    → glue (ended ++ last ∷ []) (b ∷ bs) ≡ ended ++ (last ++ b) ∷ bs
glued [] last b bs = refl
glued (part ∷ []) last b bs = refl
glued (part ∷ next ∷ ended) last b bs = ap (λ l. part ∷ l) (glued (next ∷ ended) last b bs)

module _ {X : Type 0} (p : X → Bool) where
  pub some_part : (xs : List X) → 0 < length (slice_split p xs)
  some_part xs = omega (arith, length-slice_split p xs)

  pub split_append : (xs ys : List X)
      → slice_split p (xs ++ ys) ≡ glue (slice_split p xs) (slice_split p ys)
  split_append [] ys = grind (arith, (some_part ys))
  split_append (x ∷ xs) ys = grind (arith, (split_append xs ys), (some_part xs), (some_part ys))

-- ---- calls

-- a last block, whose items are a call or none
pub calls_more : (size : ℕ) (blocks : List (List (List ℕ))) (calls : List (List Item)) (last : List (List ℕ)) (call : List Item)
    → AreCalls size blocks calls → IsCall size last call
    → AreCalls size (blocks ++ last ∷ []) (calls ++ one_call call)
calls_more size [] [] [] call h k = grind arith
calls_more size [] [] (line ∷ lines) call h k = grind arith
calls_more size ([] ∷ blocks) calls last call h k = calls_more size blocks calls last call h k
calls_more size ((line ∷ lines) ∷ blocks) (c ∷ calls) last call h k =
    (h.0, calls_more size blocks calls last call h.1 k)
calls_more size _ _ last call h k = absurd h

-- a line more of a call
pub items_more : (size : ℕ) (lines : List (List ℕ)) (items : List Item) (line : List ℕ) (i : Item)
    → AreItemLines size lines items → IsItemLine size line i
    → AreItemLines size (lines ++ line ∷ []) (items ++ i ∷ [])
items_more size [] [] line i h k = (k, tt)
items_more size (l ∷ lines) (j ∷ items) line i h k = (h.0, items_more size lines items line i h.1 k)
items_more size _ _ line i h k = absurd h

pub as_many : (size : ℕ) (lines : List (List ℕ)) (items : List Item) → AreItemLines size lines items
    → length lines ≡ length items
as_many size [] [] h = refl
as_many size (l ∷ lines) (j ∷ items) h = ap (λ n. suc n) (as_many size lines items h.1)
as_many size _ _ h = absurd h

pub last_of : (ended : List (List (List ℕ))) (last : List (List ℕ))
    → last_block (ended ++ last ∷ []) ≡ last
last_of [] last = refl
last_of (block ∷ []) last = refl
last_of (block ∷ next ∷ ended) last = last_of (next ∷ ended) last
