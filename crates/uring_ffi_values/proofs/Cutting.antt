-- A list that is cut part by part.
use Rattle.std.proofs.Common.{◌≡◌, ◌<◌, ◌≤◌, ◌+◌, ◌-◌, ◌++◌, ◌∷◌, ℕ, zero, suc, List, [], length, map, take, drop, min, get_or, refl, ap, arith}
use Rattle.std.proofs.Math.Seq.{drop-cons}
use Rattle.std.proofs.lemmas.List.{drop-drop}
use Rattle.uring_ffi_values.proofs.Common.{AreShort, Sqe, append-nil, append_assoc, cut, drop_all, drop_min, drop_more, laid_out, length-drop, length-map, length-take, map-append, map_more, map_push, take_min}
use Rattle.uring_files.specs.Contents.{max_len}
use Rattle.uring_outcomes.specs.Faults.{entry_count}

-- the part that begins here, and what is left after it
pub cut_next : {X : Type 0} (lens : List ℕ) (values : List X) (i j from to len : ℕ) → i < length lens
    → j ≡ suc i → len ≡ get_or lens i 0 → to ≡ from + min len (length values - from)
    → cut (drop i lens) (drop from values)
    ≡ take (to - from) (drop from values) ∷ cut (drop j lens) (drop to values)
cut_next lens values i j from to len within next is ends =
    grind (arith, (length-drop from values), (drop-cons lens i 0 within), min, take_min, drop_min, (drop-drop (min len (length values - from)) from values))

pub next_suc : (i : ℕ) → i + 1 ≡ suc i
next_suc i = omega arith

pub end_within : (from to len many : ℕ) → from ≤ many → to ≡ from + min len (many - from) → to ≤ many
end_within from to len many within ends = omega (arith, within, ends)

-- one part more was made
pub cut_step : {X Y : Type 0} (f : Y → List X) (done new : List Y) (part : Y) (lens : List ℕ) (values : List X) (i j from to len : ℕ) (all : List (List X))
    → i < length lens → j ≡ suc i → len ≡ get_or lens i 0 → to ≡ from + min len (length values - from)
    → f part ≡ take (to - from) (drop from values) → new ≡ done ++ part ∷ []
    → map f done ++ cut (drop i lens) (drop from values) ≡ all
    → map f new ++ cut (drop j lens) (drop to values) ≡ all
cut_step f done new part lens values i j from to len all within next is ends gives pushed so =
    grind (arith, map-append, append_assoc, (cut_next lens values i j from to len within next is ends))

-- after the last length there is nothing left to cut, and nothing to make of a list at its end
pub nothing_left : {X Y : Type 0} (f : List X → List Y) (xs : List X) (i : ℕ) (done all : List Y) → length xs ≤ i
    → f [] ≡ [] → done ++ f (drop i xs) ≡ all → done ≡ all
nothing_left f xs i done all past none so = grind (arith, append-nil, drop_all)

-- there are as many parts as lengths
cut_many : {X : Type 0} (lens : List ℕ) (values : List X) → length (cut lens values) ≡ length lens
cut_many [] values = refl
cut_many (n ∷ more) values = ap suc (cut_many more (drop n values))

pub parts_many : {X Y : Type 0} (f : Y → List X) (parts : List Y) (lens : List ℕ) (values : List X)
    → map f parts ≡ cut lens values → length parts ≡ length lens
parts_many {X = X} f parts lens values is = grind (arith, length-map, cut_many)

-- and none of them is longer than files may be, if no length is
cut_short : (lens bytes : List ℕ) → AreShort lens → (place : ℕ)
    → length (get_or (cut lens bytes) place []) ≤ max_len
cut_short [] bytes short place = omega arith
cut_short (n ∷ more) bytes short zero = omega (arith, length-take n bytes, short 0 0 (omega arith))
cut_short (n ∷ more) bytes short (suc place) =
    cut_short more (drop n bytes) (λ k d within. short (suc k) d (omega (arith, within))) place

pub parts_short : {Y : Type 0} (f : Y → List ℕ) (parts : List Y) (lens bytes : List ℕ) → map f parts ≡ cut lens bytes
    → AreShort lens → (place : ℕ) → length (get_or (map f parts) place []) ≤ max_len
parts_short f parts lens bytes is short place = grind (arith, cut_short)

-- and calls that entries are cut into have no more entries than there are
pub cut_within : (lens : List ℕ) (entries : List Sqe) → entry_count (cut lens entries) ≤ length entries
cut_within [] entries = omega arith
cut_within (n ∷ more) entries = grind (arith, (cut_within more (drop n entries)), length-take, length-drop)

-- ---- what is made of a list element by element

pub made_more : {X Y : Type 0} (f : X → Y) (xs : List X) (i : ℕ) (x d : X) (y : Y) (done new : List Y) → i < length xs
    → x ≡ get_or xs i d → y ≡ f x → new ≡ done ++ y ∷ [] → done ≡ map f (take i xs) → new ≡ map f (take (i + 1) xs)
made_more f xs i x d y done new within is gives pushed so = grind (arith, map_more)

pub made_twice : {X Y Z : Type 0} (g : Y → Z) (f : X → Y) (xs : List X) (i : ℕ) (x d : X) (z : Z) (done new : List Z) → i < length xs
    → x ≡ get_or xs i d → z ≡ g (f x) → new ≡ done ++ z ∷ [] → done ≡ map g (map f (take i xs)) → new ≡ map g (map f (take (i + 1) xs))
made_twice g f xs i x d z done new within is gives pushed so =
    grind (arith, (map_more f xs i d within), (map_push g (map f (take i xs)) (f (get_or xs i d))))

pub laid_more : {X : Type 0} (f : X → List ℕ) (xs : List X) (i : ℕ) (x : X) (done kept new all : List ℕ) → i < length xs
    → x ≡ get_or xs i x → kept ≡ done → new ≡ kept ++ f x → done ++ laid_out (map f (drop i xs)) ≡ all
    → new ++ laid_out (map f (drop (i + 1) xs)) ≡ all
laid_more f xs i x done kept new all within is same pushed so = grind (arith, append_assoc, (drop_more xs i x within))
