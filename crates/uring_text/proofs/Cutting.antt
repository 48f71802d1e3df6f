-- The pieces of bytes, one after another.
use Rattle.std.proofs.Common.{◌≡◌, ℕ, ◌+◌, ◌<◌, true, false, eqb, List, [], ◌∷◌, ◌++◌, length, take, drop, get_or, map, append_assoc, append-nil, arith}
use Rattle.uring_text.proofs.Common.{All, IfNone, IfSome, None, Option, Some, drop_more, map-append, take-append-drop}
use Rattle.std.specs.Prelude.{◌==◌}
use Rattle.std.specs.Borrow.{Bor}
use Rattle.std.specs.List.{slice_split}
use Rattle.std.proofs.lemmas.List.Splits.{slice_split_at}

-- what stands between the bytes that are `end`
abbrev pub pieces_of : ℕ → List ℕ → List (List ℕ)
pieces_of end bytes = slice_split (λ b. b == end) bytes

-- no byte is that
abbrev pub HasNone : ℕ → List ℕ → Type 0
HasNone end bytes = All (λ b. eqb b end ≡ false) bytes

-- bytes are cut at the first that is
pub cut_at : (end : ℕ) (bytes : List ℕ) (i : ℕ) → i < length bytes → eqb (get_or bytes i 0) end ≡ true
    → HasNone end (take i bytes)
    → pieces_of end bytes ≡ take i bytes ∷ pieces_of end (drop (i + 1) bytes)
cut_at end bytes i below ends none =
    let cut = slice_split_at (λ b. eqb b end) (take i bytes) (get_or bytes i 0) (drop (i + 1) bytes) none ends in
    rw (← drop_more bytes i 0 below, take-append-drop i bytes) at cut

-- the pieces of what is left, if something is
abbrev pub left_pieces : ℕ → Option (Bor (List ℕ)) → List (List ℕ)
left_pieces end None = []
left_pieces end (Some rest) = pieces_of end rest.now

-- how much is left
abbrev pub left_size : Option (Bor (List ℕ)) → ℕ
left_size None = 0
left_size (Some rest) = length rest.now + 1

-- what pieces are
abbrev pub words : List (Bor (List ℕ)) → List (List ℕ)
words pieces = map (λ piece. piece.now) pieces

-- a piece more, and what is left after it
pub cut_more : (end : ℕ) (all : List (List ℕ)) (before after : List (Bor (List ℕ))) (piece rest : Bor (List ℕ)) (left over : Option (Bor (List ℕ)))
    → left ≡ Some rest → after ≡ before ++ piece ∷ []
    → IfSome over (λ b. pieces_of end rest.now ≡ piece.now ∷ pieces_of end b.now)
    → IfNone over (pieces_of end rest.now ≡ piece.now ∷ [])
    → words before ++ left_pieces end left ≡ all → words after ++ left_pieces end over ≡ all
cut_more end all before after piece rest left over is made some none told =
    grind (arith, map-append, append_assoc, append-nil)

-- less is left
pub cut_less : (rest : Bor (List ℕ)) (left over : Option (Bor (List ℕ))) → left ≡ Some rest
    → IfSome over (λ b. length b.now < length rest.now) → left_size over < left_size left
cut_less rest left over is shorter = grind arith

-- nothing is left
pub cut_all : (end : ℕ) (all : List (List ℕ)) (pieces : List (Bor (List ℕ))) (left : Option (Bor (List ℕ)))
    → left ≡ None → words pieces ++ left_pieces end left ≡ all → words pieces ≡ all
cut_all end all pieces left is told = grind (arith, append-nil)
