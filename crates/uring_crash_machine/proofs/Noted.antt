-- Lists of logs in which each, one after the other, is noted, and the first files of an epoch with their logs.
use Rattle.std.proofs.Common.{◌≡◌, ◌<◌, ◌+◌, ℕ, zero, suc, List, [], ◌∷◌, ◌++◌, length, map, take, drop, get_or, Some, refl, ap, ◌∙◌, arith}
use Rattle.uring_crash_machine.proofs.Common.{FileContents, empty_file, empty_files, file_at, file_of_bytes, first_files, log_on, logs_on, pos, set, slice_get}

-- the first of some are changed, and one more is
pub set_noted : {X : Type 0} (f : X → X) (xs : List X) (i : ℕ) (d : X) → i < length xs
    → set (map f (take i xs) ++ drop i xs) i (f (get_or (map f (take i xs) ++ drop i xs) i d))
    ≡ map f (take (suc i) xs) ++ drop (suc i) xs
set_noted f [] i d within = absurd (omega (arith, within))
set_noted f (x ∷ xs) zero d within = refl
set_noted f (x ∷ xs) (suc i) d within = ap (λ ys. f x ∷ ys) (set_noted f xs i d (omega (arith, within)))

-- none is changed
pub map_same : {X : Type 0} (f : X → X) (xs : List X) → ((x : X) → x ≡ f x) → xs ≡ map f xs
map_same f [] same = refl
map_same f (x ∷ xs) same = ap (λ y. y ∷ xs) (same x) ∙ ap (λ ys. f x ∷ ys) (map_same f xs same)

pub map_twice : {X : Type 0} (f g : X → X) (xs : List X) → map f (map g xs) ≡ map (λ x. f (g x)) xs
map_twice f g [] = refl
map_twice f g (x ∷ xs) = ap (λ ys. f (g x) ∷ ys) (map_twice f g xs)

pub map_alike : {X : Type 0} (f g : X → X) (xs : List X) → ((x : X) → f x ≡ g x) → map f xs ≡ map g xs
map_alike f g xs same = grind arith

-- First files.

pub first_many : (n : ℕ) (contents : List (List ℕ)) → length (first_files n contents) ≡ n
first_many zero contents = refl
first_many (suc n) [] = ap suc (first_many n [])
first_many (suc n) (b ∷ later) = ap suc (first_many n later)

pub first_empty : (n : ℕ) → empty_files n ≡ first_files n []
first_empty zero = refl
first_empty (suc n) = ap (λ fs. empty_file ∷ fs) (first_empty n)

-- the bytes of one more are put in
pub first_put : (n : ℕ) (contents : List (List ℕ)) (i : ℕ) → i < n → i < length contents
    → set (first_files n (take i contents)) i (file_of_bytes (get_or contents i []))
    ≡ first_files n (take (suc i) contents)
first_put zero contents i few within = absurd (omega (arith, few))
first_put (suc n) [] i few within = absurd (omega (arith, within))
first_put (suc n) (b ∷ later) zero few within = refl
first_put (suc n) (b ∷ later) (suc i) few within =
    ap (λ fs. file_of_bytes b ∷ fs) (first_put n later i (omega (arith, few)) (omega (arith, within)))

-- the file at a place
pub first_at : (n : ℕ) (contents : List (List ℕ)) (i : ℕ) → i < n
    → file_at (first_files n contents) i ≡ file_of_bytes (get_or contents i [])
first_at zero contents i within = absurd (omega (arith, within))
first_at (suc n) [] zero within = refl
first_at (suc n) [] (suc i) within = first_at n [] i (omega (arith, within))
first_at (suc n) (b ∷ later) zero within = refl
first_at (suc n) (b ∷ later) (suc i) within = first_at n later i (omega (arith, within))

-- Their logs.

-- one log more
logs_longer : (unit from n : ℕ) (contents : List (List ℕ))
    → logs_on unit from (first_files (suc n) contents)
    ≡ logs_on unit from (first_files n contents) ++ log_on unit (get_or contents n []) (pos (n + from)) ∷ []
logs_longer unit from zero [] = grind arith
logs_longer unit from zero (b ∷ later) = grind arith
logs_longer unit from (suc n) [] = grind (arith, (logs_longer unit (suc from) n))
logs_longer unit from (suc n) (b ∷ later) = grind (arith, log_on, (logs_longer unit (suc from) n later))

pub logs_more : (unit n : ℕ) (contents : List (List ℕ))
    → logs_on unit 0 (first_files (suc n) contents)
    ≡ logs_on unit 0 (first_files n contents) ++ log_on unit (get_or contents n []) (pos n) ∷ []
logs_more unit n contents = grind (arith, logs_longer, log_on)

pub logs_many : (unit from : ℕ) (files : List FileContents) → length (logs_on unit from files) ≡ length files
logs_many unit from [] = refl
logs_many unit from (f ∷ more) = ap suc (logs_many unit (suc from) more)

-- the log at a place
logs_at_from : (unit from : ℕ) (files : List FileContents) (i : ℕ) → i < length files
    → slice_get (logs_on unit from files) i ≡ Some (log_on unit (file_at files i).bytes (pos (i + from)))
logs_at_from unit from [] i within = absurd (omega (arith, within))
logs_at_from unit from (f ∷ more) zero within = grind arith
logs_at_from unit from (f ∷ more) (suc i) within =
    grind (arith, (logs_at_from unit (suc from) more i (omega (arith, within))), log_on)

pub logs_at : (unit : ℕ) (files : List FileContents) (i : ℕ) → i < length files
    → slice_get (logs_on unit 0 files) i ≡ Some (log_on unit (file_at files i).bytes (pos i))
logs_at unit files i within = grind (arith, logs_at_from, log_on)

pub one_noted : {X : Type 0} (f : X → X) (init logs : List X) (i j : ℕ) (d new : X) → i < length init → j ≡ suc i
    → logs ≡ map f (take i init) ++ drop i init → new ≡ f (get_or logs i d)
    → set logs i new ≡ map f (take j init) ++ drop j init
one_noted f init logs i j d new within next so noted = grind (arith, get_or, set_noted)
