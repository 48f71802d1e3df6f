-- A search through a list, and loops over lists of references.
use Rattle.std.proofs.Common.{◌≡◌, ◌+◌, ◌-◌, ◌*◌, ◌<◌, ℕ, zero, suc, min, max, Bool, true, false, cond, List, [], ◌∷◌, ◌++◌, length, map, get_or, take, drop, replicate, refl, sym, ap, ◌∙◌, inl, inr, arith}
use Rattle.uring_volume.proofs.Common.{History, append_assoc, joined, OnOk, Result, Write, byte_over, bytes_from, bytes_over, cond-false, drop_more, end_of, ext_get_or, filter, fronts, get_or-drop, get_or-take, get_or_past, length-append, length-drop, length-replicate, length-take, length_over, list_any, list_any-append, map-append, mul-le-mul_left, or_left, put_by, take_more, unit_contents}
use Rattle.uring_volume.proofs.Painting.{below_or_from}
use Rattle.uring_volume.proofs.Leaving.{padded}
use Rattle.uring_volume.proofs.Files.{length_bytes_over, bytes_over_at, length_bytes_from, bytes_from_at, length_joined}

holds_at : {X Y : Type 0} (f : X → Y) (p : Y → Bool) (xs : List X) (i : ℕ) (d : X)
    → i < length xs → p (f (get_or xs i d)) ≡ true → list_any p (map f xs) ≡ true
holds_at f p [] i d within is = absurd (omega arith)
holds_at f p (x ∷ xs) zero d within is = or_left (p (f x)) (list_any p (map f xs)) is
holds_at f p (x ∷ xs) (suc i) d within is = grind (arith, (holds_at f p xs i d (omega arith) is))

-- the one that is looked for stands at i
pub one_is : {X Y : Type 0} (f : X → Y) (p : Y → Bool) (xs : List X) (i : ℕ) (x : X)
    → i < length xs → x ≡ get_or xs i x → p (f x) ≡ true → list_any p (map f xs) ≡ true
one_is f p xs i x within at is = grind (arith, holds_at)

pub none_more : {X Y : Type 0} (f : X → Y) (p : Y → Bool) (xs : List X) (i : ℕ) (x : X)
    → i < length xs → x ≡ get_or xs i x → p (f x) ≡ false
    → list_any p (map f (take i xs)) ≡ false → list_any p (map f (take (i + 1) xs)) ≡ false
none_more f p xs i x within at out none =
    grind (arith, (take_more xs i x within), (map-append f (take i xs) (x ∷ [])), (list_any-append p (map f (take i xs)) (f x ∷ [])))

-- all bytes are painted
pub painted : (k : ℕ) (now old : List ℕ) (w : Write) → length now ≡ length old
    → ((j : ℕ) → j < length old → get_or now j 0 ≡ byte_over (get_or old j 0) (w ∷ []) (k + j))
    → now ≡ bytes_over k old w
painted k now old w same done =
    ext_get_or 0 now (bytes_over k old w) (same ∙ sym (length_bytes_over k old w))
    (λ j within. done j (omega arith) ∙ sym (bytes_over_at k old w j (omega arith)))

pub put_new : {X Y : Type 0} (f : X → Y) (same : Y → Y → Bool) (old new : List X) (x : X) (y : Y)
    → f x ≡ y → list_any (λ z. same z y) (map f old) ≡ false → new ≡ old ++ x ∷ []
    → map f new ≡ put_by same (map f old) y
put_new f same old new x y is none pushed = grind (arith, map-append)

pub on_ok : {T E : Type 0} (r : Result T E) (P Q : Type 0) → (P → Q) → OnOk r P → OnOk r Q
on_ok r P Q follows holds = grind arith

-- a length after the writes that are left of those from index i on
pub kept_more : {X : Type 0} (f : X → Write) (p : Write → Bool) (xs : List X) (i : ℕ) (x : X)
    (len next : ℕ) (b : Bool) → i < length xs → x ≡ get_or xs i x → b ≡ p (f x)
    → next ≡ cond b (max len (end_of (f x))) len
    → length_over next (filter p (map f (drop (i + 1) xs))) ≡ length_over len (filter p (map f (drop i xs)))
kept_more f p xs i x len next b within at is made = grind (arith, drop_more)

-- numbers that stop at a most
pub times_most : (a b most : ℕ) → min (min a most * b) most ≡ min (a * b) most
times_most a b most = elim (below_or_from most a) [
  | inl over ↦ elim (below_or_from 0 b) as (λ _. min (min a most * b) most ≡ min (a * b) most) [
    | inl some ↦ grind (arith, (mul-le-mul_left most some), (mul-le-mul_left a some))
    | inr none ↦ grind arith
  ]
  | inr within ↦ let exact : min a most ≡ a = omega arith in ap (λ n. min (n * b) most) exact
]

pub dropped : {X Y : Type 0} (f : X → Y) (xs : List X) (i : ℕ) (x : X) → i < length xs
    → x ≡ get_or xs i x → map f (drop i xs) ≡ f x ∷ map f (drop (i + 1) xs)
dropped f xs i x within at = ap (map f) (drop_more xs i x within ∙ ap (λ z. z ∷ drop (i + 1) xs) (sym at))

pub kept_one : {X Y : Type 0} (f : X → Y) (p : Y → Bool) (xs : List X) (i : ℕ) (x : X) (before : List Y)
    → i < length xs → x ≡ get_or xs i x → p (f x) ≡ true
    → (before ++ f x ∷ []) ++ filter p (map f (drop (i + 1) xs)) ≡ before ++ filter p (map f (drop i xs))
kept_one f p xs i x before within at is = grind (arith, append_assoc, dropped)

pub left_one : {X Y : Type 0} (f : X → Y) (p : Y → Bool) (xs : List X) (i : ℕ) (x : X)
    → i < length xs → x ≡ get_or xs i x → p (f x) ≡ false
    → filter p (map f (drop (i + 1) xs)) ≡ filter p (map f (drop i xs))
left_one f p xs i x within at out = grind (arith, dropped, cond-false)

pub put_one : {X Y : Type 0} (f : X → Y) (g : Y → Y) (xs : List X) (i : ℕ) (x : X) (before : List Y)
    → i < length xs → x ≡ get_or xs i x
    → (before ++ g (f x) ∷ []) ++ map g (map f (drop (i + 1) xs)) ≡ before ++ map g (map f (drop i xs))
put_one f g xs i x before within at = grind (arith, append_assoc, dropped)

pub joined_one : {X : Type 0} (f : X → List ℕ) (xs : List X) (i : ℕ) (x : X) (ends before : List (List ℕ))
    → i < length xs → x ≡ get_or xs i x
    → (before ++ map (λ e. f x ++ e) ends) ++ joined (map f (drop (i + 1) xs)) ends
    ≡ before ++ joined (map f (drop i xs)) ends
joined_one f xs i x ends before within at = grind (arith, append_assoc, dropped)

-- how many there are with one unit more
pub count_more : (u : ℕ) (first : List ℕ) (h : History) (len i count size next most : ℕ)
    (ends : List (List ℕ)) → count ≡ min (length (fronts u first h len i)) most
    → ends ≡ unit_contents u first h len i → size ≡ length ends → next ≡ min (count * size) most
    → next ≡ min (length (fronts u first h len (i + 1))) most
count_more u first h len i count size next most ends so_far is many made = grind (arith, times_most, length_joined)

-- what a file has of n bytes from offset k on, with zeros after it
pub padded_from : (first xs : List ℕ) (k n a b : ℕ) → a ≡ min k (length first)
    → b ≡ min (k + n) (length first) → xs ≡ take (b - a) (drop a first)
    → xs ++ replicate (n - length xs) 0 ≡ bytes_from first k n
padded_from first xs k n a b begins ends is =
    let size : length xs ≡ b - a = omega (arith, ap length is ∙ length-take (b - a) (drop a first), length-drop a first) in
    let long : length (xs ++ replicate (n - length xs) 0) ≡ n = omega (arith, size, length-append xs (replicate (n - length xs) 0), length-replicate {A = ℕ} (n - length xs) 0) in
    ext_get_or 0 (xs ++ replicate (n - length xs) 0) (bytes_from first k n) (long ∙ sym (length_bytes_from first k n))
    (λ j within. grind (arith, (padded xs (n - length xs) j), (below_or_from j (b - a)), get_or-take, get_or-drop, get_or_past, (bytes_from_at first k n j)))

-- a flag that was made of each element
pub flag_is : {X Y : Type 0} (f : X → Y) (p : Y → Bool) (xs : List X) (flags : List Bool) (i : ℕ) (x : X) (b d : Bool)
    → i < length xs → flags ≡ map p (map f xs) → x ≡ get_or xs i x → b ≡ get_or flags i d → b ≡ p (f x)
flag_is f p [] flags i x b d within made at is = absurd (omega (arith, within))
flag_is f p (y ∷ xs) flags zero x b d within made at is = is ∙ ap (λ bs. get_or bs 0 d) made ∙ ap (λ z. p (f z)) (sym at)
flag_is f p (y ∷ xs) flags (suc i) x b d within made at is =
    flag_is f p xs (map p (map f xs)) i x b d (omega (arith, within)) refl at (is ∙ ap (λ bs. get_or bs (suc i) d) made)
