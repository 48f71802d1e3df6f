-- Texts in lists, one more at a time.
use Rattle.std.proofs.Common.{◌≡◌, Bool, true, false, ℕ, ◌+◌, ◌<◌, List, [], ◌∷◌, ◌++◌, length, map, take, get_or, refl, sym, ap, subst, ◌∙◌, append_assoc}
use Rattle.uring_litmus.proofs.Common.{AllZip, Global, IsNoted, String, map-append, string_bytes, take_more, texts_of}

-- a text is put after others
pub one_more : (texts : List (String Global)) (text : String Global)
    → texts_of (texts ++ text ∷ []) ≡ texts_of texts ++ string_bytes text ∷ []
one_more texts text = map-append string_bytes texts (text ∷ [])

-- the first so many elements, and one more
pub next_taken : {X : Type 0} (xs : List X) (i : ℕ) (x : X) → i < length xs → x ≡ get_or xs i x
    → take (i + 1) xs ≡ take i xs ++ x ∷ []
next_taken xs i x low is = take_more xs i x low ∙ ap (λ y. take i xs ++ y ∷ []) (sym is)

-- what a function gives of the first so many, and of one more
pub map_more : {X Y : Type 0} (f : X → Y) (xs : List X) (i : ℕ) (x : X) (before so after : List Y)
    → i < length xs → x ≡ get_or xs i x → so ≡ before ++ map f (take i xs) → after ≡ so ++ f x ∷ []
    → after ≡ before ++ map f (take (i + 1) xs)
map_more f xs i x before so after low is a b =
    b ∙ ap (λ l. l ++ f x ∷ []) a ∙ append_assoc before (map f (take i xs)) (f x ∷ [])
    ∙ ap (λ l. before ++ l) (sym (ap (map f) (next_taken xs i x low is) ∙ map-append f (take i xs) (x ∷ [])))

-- one more on both sides
pub zip_push : {X Y : Type 0} (R : X → Y → Type 0) (xs : List X) (ys : List Y) (x : X) (y : Y)
    → AllZip R xs ys → R x y → AllZip R (xs ++ x ∷ []) (ys ++ y ∷ [])
zip_push R [] [] x y all one = (one, tt)
zip_push R [] (z ∷ ys) x y all one = absurd all
zip_push R (z ∷ xs) [] x y all one = absurd all
zip_push R (z ∷ xs) (u ∷ ys) x y all one = (all.0, zip_push R xs ys x y all.1 one)

-- each text with itself
pub zip_same : (b : Bool) (each orders texts : List (List ℕ)) → b ≡ false → AllZip (IsNoted b each orders) texts texts
zip_same true each orders texts e = absurd cc
zip_same false each orders [] e = tt
zip_same false each orders (text ∷ texts) e = (refl, zip_same false each orders texts e)

-- one more text on both sides
pub zip_texts : (R : List ℕ → List ℕ → Type 0) (lines ys : List (String Global)) (i : ℕ) (line noted : String Global)
    → i < length lines → line ≡ get_or lines i line → AllZip R (texts_of (take i lines)) (texts_of ys)
    → R (string_bytes line) (string_bytes noted)
    → AllZip R (texts_of (take (i + 1) lines)) (texts_of (ys ++ noted ∷ []))
zip_texts R lines ys i line noted low is all one =
    let both = zip_push R (texts_of (take i lines)) (texts_of ys) (string_bytes line) (string_bytes noted) all one in
    let left : texts_of (take (i + 1) lines) ≡ texts_of (take i lines) ++ string_bytes line ∷ [] = ap texts_of (next_taken lines i line low is) ∙ one_more (take i lines) line in
    subst (λ (l : List (List ℕ)). AllZip R l (texts_of (ys ++ noted ∷ []))) (sym left)
    (subst (λ (l : List (List ℕ)). AllZip R (texts_of (take i lines) ++ string_bytes line ∷ []) l) (sym (one_more ys noted)) both)

-- one more element, and one more text that it has
pub zip_more : {X : Type 0} (R : X → List ℕ → Type 0) (xs : List X) (ys : List (String Global)) (i : ℕ) (x : X) (line : String Global)
    → i < length xs → x ≡ get_or xs i x → AllZip R (take i xs) (texts_of ys) → R x (string_bytes line)
    → AllZip R (take (i + 1) xs) (texts_of (ys ++ line ∷ []))
zip_more R xs ys i x line low is all one =
    let both = zip_push R (take i xs) (texts_of ys) x (string_bytes line) all one in
    subst (λ (l : List (List ℕ)). AllZip R (take (i + 1) xs) l) (sym (one_more ys line))
    (subst (λ l. AllZip R l (texts_of ys ++ string_bytes line ∷ [])) (sym (next_taken xs i x low is)) both)
