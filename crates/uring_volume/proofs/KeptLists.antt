-- Lists of what is kept, of numbers and of what they become.
use Rattle.std.proofs.Common.{◌≡◌, ℕ, ◌==◌, ◌<◌, ◌≤◌, ◌+◌, zero, suc, Bool, true, false, not, ◌||◌, List, [], ◌∷◌, ◌++◌, length, map, take, drop, get_or, refl, ap, ◌∙◌, inl, inr, arith}
use Rattle.std.proofs.Math.ListN.{set}
use Rattle.std.specs.Prelude.{IsOk}
use Rattle.std.specs.Result.{is_err}
use Rattle.uring_volume.proofs.Common.{Err, Ok, Result, append-nil, list_any-append, take_more, length-map, drop_all, take_all, IsIn, Write, but, both_ways, filter, list_any, map-append, ◌&&◌}
use Rattle.uring_volume.specs.declared.kept.Running.{Running}

pub of_map : {X Y : Type 0} (f : X → Y) (y : Y) (xs : List X) → IsIn y (map f xs)
    → (x : X) × IsIn x xs × (y ≡ f x)
of_map f y [] among = absurd among
of_map f y (x ∷ xs) (inl same) = (x, inl refl, same)
of_map f y (x ∷ xs) (inr more) = let found = of_map f y xs more in (found.0, inr found.1, found.2)

pub in_map : {X Y : Type 0} (f : X → Y) (x : X) (xs : List X) → IsIn x xs → IsIn (f x) (map f xs)
in_map f x [] among = among
in_map f x (y ∷ xs) (inl same) = inl (ap f same)
in_map f x (y ∷ xs) (inr more) = inr (in_map f x xs more)

pub map_map : {X Y Z : Type 0} (f : X → Y) (g : Y → Z) (k : X → Z) (xs : List X) → ((x : X) → g (f x) ≡ k x)
    → map g (map f xs) ≡ map k xs
map_map f g k [] same = refl
map_map f g k (x ∷ xs) same = grind (arith, (same x), (map_map f g k xs same))

pub of_filter : {X : Type 0} (p : X → Bool) (x : X) (xs : List X) → IsIn x (filter p xs) → IsIn x xs
of_filter p x [] among = among
of_filter p x (y ∷ xs) among = grind (arith, (of_filter p x xs))

pub in_default : {X : Type 0} (xs : List X) (i : ℕ) (d : X) → i < length xs → IsIn (get_or xs i d) xs
in_default [] i d within = absurd (omega (arith, within))
in_default (y ∷ xs) zero d within = inl refl
in_default (y ∷ xs) (suc i) d within = inr (in_default xs i d (omega (arith, within)))

pub but_map : (n : ℕ) (ss : List Running) → map (λ s. s.number) (filter (λ s. not (s.number == n)) ss) ≡ but n (map (λ s. s.number) ss)
but_map n [] = refl
but_map n (s ∷ ss) = grind (arith, (but_map n ss))

pub passes : {X : Type 0} (p : X → Bool) (x : X) (xs : List X) → IsIn x (filter p xs) → p x ≡ true
passes p x [] among = absurd among
passes p x (y ∷ xs) among = grind (arith, (passes p x xs))

pub any_same : {X : Type 0} (p q : X → Bool) (xs : List X) → ((x : X) → IsIn x xs → p x ≡ q x) → list_any p xs ≡ list_any q xs
any_same p q [] same = refl
any_same p q (x ∷ xs) same = grind (arith, (same x (inl refl)), (any_same p q xs (λ y among. same y (inr among))))

pub any_map : {X Y : Type 0} (f : X → Y) (p : Y → Bool) (xs : List X) → list_any p (map f xs) ≡ list_any (λ x. p (f x)) xs
any_map f p [] = refl
any_map f p (x ∷ xs) = ap (λ b. p (f x) || b) (any_map f p xs)

pub any_filter : {X : Type 0} (p q : X → Bool) (xs : List X) → list_any p (filter q xs) ≡ list_any (λ x. q x && p x) xs
any_filter p q [] = refl
any_filter p q (x ∷ xs) = grind (arith, (any_filter p q xs))

set_changed : {X : Type 0} (f : X → X) (xs : List X) (i : ℕ) (d : X) → i < length xs
    → set (map f (take i xs) ++ drop i xs) i (f (get_or (map f (take i xs) ++ drop i xs) i d))
    ≡ map f (take (suc i) xs) ++ drop (suc i) xs
set_changed f [] i d within = absurd (omega (arith, within))
set_changed f (x ∷ xs) zero d within = refl
set_changed f (x ∷ xs) (suc i) d within = ap (λ ys. f x ∷ ys) (set_changed f xs i d (omega (arith, within)))

pub one_changed : {X : Type 0} (f : X → X) (init now : List X) (i j : ℕ) (d new : X) → i < length init → j ≡ suc i
    → now ≡ map f (take i init) ++ drop i init → new ≡ f (get_or now i d)
    → set now i new ≡ map f (take j init) ++ drop j init
one_changed f init now i j d new within next so changed = grind (arith, get_or, set_changed)

pub all_changed : {X : Type 0} (f : X → X) (init now : List X) (i : ℕ) → length init ≤ i
    → now ≡ map f (take i init) ++ drop i init → now ≡ map f init
all_changed f init now i past so = grind (arith, take_all, drop_all, append-nil)

pub in_at : {X : Type 0} (xs : List X) (i : ℕ) (x : X) → i < length xs → x ≡ get_or xs i x → IsIn x xs
in_at [] i x within is = absurd (omega (arith, within))
in_at (y ∷ xs) zero x within is = inl is
in_at (y ∷ xs) (suc i) x within is = inr (in_at xs i x (omega (arith, within)) is)

pub whole_again : {X : Type 0} (now old : List X) (n : ℕ) → n ≡ length old → length now ≡ length old
    → take n (now ++ drop (length now) old) ≡ now
whole_again now old n e same = grind (arith, drop_all, append-nil, take_all)

-- a list that each element was changed of
pub changed_whole : {X : Type 0} (f : X → X) (now old was : List X) (n : ℕ) → n ≡ length old → was ≡ old → now ≡ map f was
    → take n (now ++ drop (length now) old) ≡ map f old
changed_whole f now old was n e same changed =
    let len : length now ≡ length old = grind (arith, (ap length changed), length-map, (ap length same)) in
    whole_again now old n e len ∙ changed ∙ ap (map f) same

pub none_more : {X : Type 0} (p : X → Bool) (xs : List X) (i : ℕ) (x : X) → i < length xs → x ≡ get_or xs i x
    → p x ≡ false → list_any p (take i xs) ≡ false → list_any p (take (i + 1) xs) ≡ false
none_more p xs i x within is out none =
    grind (arith, (take_more xs i x within), (list_any-append p (take i xs) (x ∷ [])))

filter_short : {X : Type 0} (p : X → Bool) (xs : List X) → length (filter p xs) ≤ length xs
filter_short p [] = omega arith
filter_short p (x ∷ xs) = grind (arith, (filter_short p xs))

pub filter_shorter : {X : Type 0} (p : X → Bool) (x : X) (xs : List X) → IsIn x xs → p x ≡ false → length (filter p xs) < length xs
filter_shorter p x [] among out = absurd among
filter_shorter p x (y ∷ xs) (inl same) out = grind (arith, (filter_short p xs), (ap p same))
filter_shorter p x (y ∷ xs) (inr more) out = grind (arith, (filter_shorter p x xs more out))

pub mapped_more : {X Y : Type 0} (f : X → Y) (xs : List X) (i : ℕ) (x : X) → i < length xs → x ≡ get_or xs i x
    → map f (take (i + 1) xs) ≡ map f (take i xs) ++ f x ∷ []
mapped_more f xs i x within is = grind (arith, (take_more xs i x within), (map-append f (take i xs) (x ∷ [])))

pub err_ok : {T E : Type 0} (r : Result T E) → is_err r ≡ true → IsOk r → ⊥
err_ok (Ok x) is ok = absurd (both_ways false refl is)
err_ok (Err e) is ok = absurd (both_ways false refl ok)

pub none_in_none : (w : Write) (ws : List Write) → length ws ≤ 0 → IsIn w ws → ⊥
none_in_none w [] short among = among
none_in_none w (v ∷ ws) short among = omega (arith, short)

pub none_filtered : {X : Type 0} (p : X → Bool) (xs : List X) → list_any p xs ≡ false → filter p xs ≡ []
none_filtered p [] none = refl
none_filtered p (x ∷ xs) none = grind (arith, (none_filtered p xs))
