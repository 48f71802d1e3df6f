-- Lists of references, and which of their writes a choice takes.
use Rattle.std.proofs.Common.{◌≡◌, ◌<◌, ◌≤◌, ◌+◌, ℕ, zero, suc, Bool, true, false, List, [], ◌∷◌, ◌++◌, length, get_or, map, take, drop, append_assoc, refl, sym, subst, ap, ◌∙◌, add-one, arith}
use Rattle.uring_volume.proofs.Common.{History, Write, after, append-nil, chosen, cond-false, cond-true, drop_all, drop_more, filter, has_safe, is_safe, length-map, list_any, map-append, may_come, named, take-map, up_to_safe}
use Rattle.std.proofs.Math.Seq.{drop-cons}
use Rattle.std.proofs.lemmas.List.Elements.{filter-append}
use Rattle.uring_volume.proofs.Seeking.{one_is}

-- none of these writes is safe
pub none_safe : (h : History) (rest : List Write) → has_safe h rest ≡ false
    → up_to_safe h rest ≡ []
none_safe h [] none = refl
none_safe h (w ∷ later) none = cond-false (has_safe h (w ∷ later)) (w ∷ up_to_safe h later) [] none

-- the last safe one of these stands at i
pub up_to_last : (h : History) (rest : List Write) (i : ℕ) (d : Write) → i < length rest
    → is_safe h (get_or rest i d) ≡ true → has_safe h (drop (suc i) rest) ≡ false
    → take (suc i) rest ≡ up_to_safe h rest
up_to_last h [] i d within safe none = absurd (omega arith)
up_to_last h (w ∷ later) zero d within safe none = grind (arith, none_safe, cond-true)
up_to_last h (w ∷ later) (suc i) d within safe none = grind (arith, (up_to_last h later i d (omega arith) safe none), cond-true)

pub get_map : {X Y : Type 0} (f : X → Y) (xs : List X) (i : ℕ) (d : X)
    → get_or (map f xs) i (f d) ≡ f (get_or xs i d)
get_map f [] i d = refl
get_map f (x ∷ xs) zero d = refl
get_map f (x ∷ xs) (suc i) d = get_map f xs i d

-- A search among the writes that references point to, at the reference x with index i.

pub last_safe : {X : Type 0} (f : X → Write) (h : History) (xs : List X) (n i : ℕ) (x : X)
    → n ≡ suc i → n ≤ length xs → x ≡ get_or xs i x → is_safe h (f x) ≡ true
    → has_safe h (drop n (map f xs)) ≡ false
    → take (i + 1) (map f xs) ≡ up_to_safe h (map f xs)
last_safe f h xs n i x e within at safe none =
    grind (arith, (map f xs), (add-one i), (length-map xs f), (get_map f xs i x), up_to_last)

pub one_less : {X : Type 0} (f : X → Write) (p : Write → Bool) (xs : List X) (n i : ℕ) (x : X)
    → n ≡ suc i → n ≤ length xs → x ≡ get_or xs i x → p (f x) ≡ false
    → list_any p (drop n (map f xs)) ≡ false → list_any p (drop i (map f xs)) ≡ false
one_less f p xs n i x e within at out none = grind (arith, (map f xs), (length-map xs f), (get_map f xs i x), drop-cons)

pub one_found : {X : Type 0} (f : X → Write) (p : Write → Bool) (xs : List X) (i : ℕ) (x : X)
    → i < length xs → x ≡ get_or xs i x → p (f x) ≡ true → list_any p (map f xs) ≡ true
one_found f p xs i x within at is = one_is f p xs i x within at is

pub push_map : {X Y : Type 0} (f : X → Y) (old new : List X) (x : X) (ys : List Y)
    → new ≡ old ++ x ∷ [] → map f old ≡ ys → map f new ≡ ys ++ f x ∷ []
push_map f old new x ys pushed same = grind (arith, map-append)

-- One element more, that passes a test or not.

pub passes : {X : Type 0} (p : X → Bool) (xs : List X) (x : X) → p x ≡ true → filter p (xs ++ x ∷ []) ≡ filter p xs ++ x ∷ []
passes p xs x is = filter-append p xs (x ∷ []) ∙ ap (λ ys. filter p xs ++ ys) (cond-true (p x) (x ∷ []) [] is)

pub fails : {X : Type 0} (p : X → Bool) (xs : List X) (x : X) → p x ≡ false → filter p (xs ++ x ∷ []) ≡ filter p xs
fails p xs x out = filter-append p xs (x ∷ []) ∙ ap (λ ys. filter p xs ++ ys) (cond-false (p x) (x ∷ []) [] out) ∙ append-nil (filter p xs)

-- A choice among references, one number after the other.

pub one_chosen : (h : History) (order now taken rest left : List Write) (n i : ℕ) (choice : List ℕ)
    → i < length choice → n ≡ get_or choice i 0 → may_come h rest n ≡ true
    → taken ≡ order ++ named n rest → left ≡ after h n rest → now ≡ taken
    → now ++ chosen h left (drop (i + 1) choice) ≡ order ++ chosen h rest (drop i choice)
one_chosen h order now taken rest left n i choice within at comes took stays is =
    rw (is, took, stays)
    (append_assoc order (named n rest) (chosen h (after h n rest) (drop (i + 1) choice))
    ∙ ap (λ ws. order ++ ws) (sym (cond-true (may_come h rest n) (named n rest ++ chosen h (after h n rest) (drop (i + 1) choice)) (chosen h rest (drop (i + 1) choice)) comes))
    ∙ ap (λ ns. order ++ chosen h rest ns) (ap (λ m. m ∷ drop (i + 1) choice) at ∙ sym (drop_more choice i 0 within)))

pub none_chosen : (h : History) (order rest : List Write) (n i : ℕ) (choice : List ℕ)
    → i < length choice → n ≡ get_or choice i 0 → may_come h rest n ≡ false
    → order ++ chosen h rest (drop (i + 1) choice) ≡ order ++ chosen h rest (drop i choice)
none_chosen h order rest n i choice within at waits =
    ap (λ ws. order ++ ws) (sym (cond-false (may_come h rest n) (named n rest ++ chosen h (after h n rest) (drop (i + 1) choice)) (chosen h rest (drop (i + 1) choice)) waits))
    ∙ ap (λ ns. order ++ chosen h rest ns) (ap (λ m. m ∷ drop (i + 1) choice) at ∙ sym (drop_more choice i 0 within))

-- and then the safe ones
pub rest_chosen : {X : Type 0} (f : X → Write) (h : History) (order rest got xs : List X) (count i : ℕ) (choice : List ℕ)
    → length choice ≤ i → got ≡ rest → xs ≡ order ++ take count rest
    → take count (map f got) ≡ up_to_safe h (map f got)
    → map f xs ≡ map f order ++ chosen h (map f rest) (drop i choice)
rest_chosen f h order rest got xs count i choice past same made safe =
    let here : take count (map f rest) ≡ up_to_safe h (map f rest) = subst (λ g. take count (map f g) ≡ up_to_safe h (map f g)) same safe in
    let none : drop i choice ≡ [] = drop_all i choice past in
    let end : map f (take count rest) ≡ up_to_safe h (map f rest) = sym (take-map f count rest) ∙ here in
    ap (map f) made
    ∙ map-append f order (take count rest)
    ∙ ap (λ ws. map f order ++ ws) end
    ∙ sym (ap (λ ns. map f order ++ chosen h (map f rest) ns) none)
