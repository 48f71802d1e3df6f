-- Spots that keep paths.
use Rattle.std.proofs.Common.{◌≡◌, ℕ, ◌+◌, ◌<◌, ◌≤◌, List, [], ◌∷◌, ◌++◌, Option, None, length, map, take, get_or, refl, sym, subst, ap, ◌∙◌, append_assoc}
use Rattle.std.specs.Prelude.{Contains}
use Rattle.std.proofs.lemmas.List.{map-append, take_more, take_all}
use Rattle.std.proofs.lemmas.List.Elements.{Contains-get_or, Contains-append_left, Contains-push}
use Rattle.uring_walk.specs.Amid.{AreKept, StandsLast, Waits}

pub kept_push : {M S : Type 0} (keeps : S → List M → Type 0) (spots : List S) (paths : List (List M)) (spot : S) (path : List M)
    → AreKept keeps spots paths → keeps spot path → AreKept keeps (spots ++ spot ∷ []) (paths ++ path ∷ [])
kept_push keeps [] [] spot path kept more = (more, tt)
kept_push keeps [] (p ∷ paths) spot path kept more = absurd kept
kept_push keeps (s ∷ spots) [] spot path kept more = absurd kept
kept_push keeps (s ∷ spots) (p ∷ paths) spot path kept more = (kept.0, kept_push keeps spots paths spot path kept.1 more)

-- the last of them
pub record KeepsLast {M S : Type 0} (keeps : S → List M → Type 0) (spots : List S) (spot : S) (paths : List (List M)) : Type 0 where
  pub before : List (List M)
  pub path : List M
  pub is : paths ≡ before ++ path ∷ []
  pub keeps_it : keeps spot path
  pub kept : AreKept keeps spots before

pub kept_last : {M S : Type 0} (keeps : S → List M → Type 0) (spots : List S) (spot : S) (paths : List (List M))
    → AreKept keeps (spots ++ spot ∷ []) paths → KeepsLast keeps spots spot paths
kept_last keeps [] spot [] kept = absurd kept
kept_last keeps [] spot (p ∷ []) kept = record { before = []; path = p; is = refl; keeps_it = kept.0; kept = tt }
kept_last keeps [] spot (p ∷ (q ∷ paths)) kept = absurd kept.1
kept_last keeps (s ∷ spots) spot [] kept = absurd kept
kept_last keeps (s ∷ spots) spot (p ∷ paths) kept =
    let l : KeepsLast keeps spots spot paths = kept_last keeps spots spot paths kept.1 in
    record { before = p ∷ l.before; path = l.path; is = ap (λ ps. p ∷ ps) l.is; keeps_it = l.keeps_it; kept = (kept.0, l.kept) }

-- none is kept
pub kept_none : {M S : Type 0} (keeps : S → List M → Type 0) (spots : List S) (paths : List (List M)) → spots ≡ []
    → AreKept keeps spots paths → paths ≡ []
kept_none {M = M} keeps spots paths none kept = by_paths paths (subst (λ ss. AreKept keeps ss paths) none kept) where
  by_paths : (ps : List (List M)) → AreKept keeps [] ps → ps ≡ []
  by_paths [] k = refl
  by_paths (p ∷ ps) k = absurd k

-- a spot was taken off
pub waits_popped : {M P S : Type 0} (stands : P → List M → Type 0) (keeps : S → List M → Type 0) (here : Option P) (spots rest : List S) (spot : S) (paths : List (List M))
    → here ≡ None → spots ≡ rest ++ spot ∷ [] → Waits stands keeps here spots paths → KeepsLast keeps rest spot paths
waits_popped {M = M} {S = S} stands keeps here spots rest spot paths none is waits =
    kept_last keeps rest spot paths (subst (λ (ss : List S). AreKept keeps ss paths) is (subst (λ h. Waits stands keeps h spots paths) none waits))

-- no place, and no spot: no path
pub waits_none : {M P S : Type 0} (stands : P → List M → Type 0) (keeps : S → List M → Type 0) (here : Option P) (spots : List S) (paths : List (List M))
    → here ≡ None → spots ≡ [] → Waits stands keeps here spots paths → paths ≡ []
waits_none stands keeps here spots paths none empty waits =
    kept_none keeps spots paths empty (subst (λ h. Waits stands keeps h spots paths) none waits)

one_more : {M : Type 0} (paths : List (List M)) (path moves : List M) (x : M)
    → paths ++ map (λ y. path ++ y ∷ []) (moves ++ x ∷ []) ≡ (paths ++ map (λ y. path ++ y ∷ []) moves) ++ (path ++ x ∷ []) ∷ []
one_more paths path moves x =
    ap (λ ps. paths ++ ps) (map-append (λ y. path ++ y ∷ []) moves (x ∷ []))
    ∙ sym (append_assoc paths (map (λ y. path ++ y ∷ []) moves) ((path ++ x ∷ []) ∷ []))

-- one move more
pub kept_more : {M S : Type 0} (keeps : S → List M → Type 0) (spots new : List S) (paths : List (List M)) (path moves : List M) (k : ℕ) (x : M) (spot : S)
    → k < length moves → x ≡ get_or moves k x
    → AreKept keeps spots (paths ++ map (λ y. path ++ y ∷ []) (take k moves))
    → new ≡ spots ++ spot ∷ [] → keeps spot (path ++ x ∷ [])
    → AreKept keeps new (paths ++ map (λ y. path ++ y ∷ []) (take (k + 1) moves))
kept_more keeps spots new paths path moves k x spot low at kept is more =
    let grown = take_more moves k x low ∙ ap (λ y. take k moves ++ y ∷ []) (sym at) in
    let e = ap (λ ms. paths ++ map (λ y. path ++ y ∷ []) ms) grown ∙ one_more paths path (take k moves) x in
    subst (λ ps. AreKept keeps new ps) (sym e) (subst (λ ss. AreKept keeps ss ((paths ++ map (λ y. path ++ y ∷ []) (take k moves)) ++ (path ++ x ∷ []) ∷ [])) (sym is)
    (kept_push keeps spots (paths ++ map (λ y. path ++ y ∷ []) (take k moves)) spot (path ++ x ∷ []) kept more))

pub is_there : {M : Type 0} (moves : List M) (k : ℕ) (x : M) → k < length moves → x ≡ get_or moves k x → Contains moves x
is_there moves k x low at = subst (Contains moves) (sym at) (Contains-get_or moves k x low)

pub kept_all : {M S : Type 0} (keeps : S → List M → Type 0) (spots : List S) (paths : List (List M)) (path moves : List M) (k : ℕ)
    → length moves ≤ k → AreKept keeps spots (paths ++ map (λ y. path ++ y ∷ []) (take k moves))
    → AreKept keeps spots (paths ++ map (λ y. path ++ y ∷ []) moves)
kept_all keeps spots paths path moves k all =
    subst (λ ms. AreKept keeps spots (paths ++ map (λ y. path ++ y ∷ []) ms)) (take_all k moves all)

-- the last of the moves was made, and the path is kept with the others
pub waits_on : {M P S : Type 0} (stands : P → List M → Type 0) (keeps : S → List M → Type 0) (place : P) (spots : List S) (paths : List (List M)) (path moves rest : List M) (x : M)
    → moves ≡ rest ++ x ∷ [] → stands place (path ++ x ∷ [])
    → AreKept keeps spots (paths ++ map (λ y. path ++ y ∷ []) rest)
    → StandsLast stands keeps place spots (paths ++ map (λ y. path ++ y ∷ []) moves)
waits_on stands keeps place spots paths path moves rest x is at kept = record {
  before = paths ++ map (λ y. path ++ y ∷ []) rest;
  path = path ++ x ∷ [];
  is = ap (λ ms. paths ++ map (λ y. path ++ y ∷ []) ms) is ∙ one_more paths path rest x;
  at = at;
  kept = kept;
}

pub last_of : {M : Type 0} (moves rest : List M) (x : M) → moves ≡ rest ++ x ∷ [] → Contains moves x
last_of moves rest x is = subst (λ ms. Contains ms x) (sym is) (Contains-push rest x)

pub first_of : {M : Type 0} (moves rest : List M) (x y : M) → moves ≡ rest ++ x ∷ [] → Contains rest y → Contains moves y
first_of moves rest x y is there = subst (λ ms. Contains ms y) (sym is) (Contains-append_left rest (x ∷ []) y there)
