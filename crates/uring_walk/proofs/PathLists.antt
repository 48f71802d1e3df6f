-- Lists, paths that follow one another, and paths that part.
use Rattle.std.proofs.Common.{◌≡◌, suc, ◌<◌, List, [], ◌∷◌, ◌++◌, length, map, refl, sym, subst, ap, ◌∙◌, inl, inr, arith, append_assoc, append-nil}
use Rattle.std.specs.Prelude.{Contains}
use Rattle.std.proofs.lemmas.List.{length-map}
use Rattle.std.proofs.Math.ListN.{get_or-map}
use Rattle.std.proofs.lemmas.List.Elements.{Contains-append_cases, Contains-append_left, Contains-append_right}
use Rattle.uring_walk.specs.Paths.{Follows, AreOnce}
use Rattle.uring_walk.specs.Amid.{Begins, Part, ArePart}

-- Lists.

pub none_there : {X : Type 0} (x : X) → Contains [] x → ⊥
none_there x there = let low : there.0 < 0 = there.1 in omega (arith, low)

pub first_there : {X : Type 0} (x : X) (xs : List X) → Contains (x ∷ xs) x
first_there x xs = Contains-append_left (x ∷ []) xs x (0, omega arith, refl)

pub alone : {X : Type 0} (x y : X) → Contains (x ∷ []) y → x ≡ y
alone x y there = grind arith

pub contains_map : {X Y : Type 0} (f : X → Y) (xs : List X) (x : X) → Contains xs x → Contains (map f xs) (f x)
contains_map f xs x there = grind (arith, length-map, get_or-map)

pub record IsMapped {X Y : Type 0} (f : X → Y) (xs : List X) (y : Y) : Type 0 where
  pub of : X
  pub there : Contains xs of
  pub is : f of ≡ y

pub mapped_by : {X Y : Type 0} (f : X → Y) (xs : List X) (y : Y) → Contains (map f xs) y → IsMapped f xs y
mapped_by f [] y there = absurd (none_there y there)
mapped_by f (x ∷ xs) y there =
    elim (Contains-append_cases (f x ∷ []) (map f xs) y there) [
      | inl first ↦ record { of = x; there = first_there x xs; is = alone (f x) y first }
      | inr later ↦ (let m : IsMapped f xs y = mapped_by f xs y later in record { of = m.of; there = Contains-append_right (x ∷ []) xs m.of m.there; is = m.is })
    ]

pub once_tail : {X : Type 0} (x : X) (xs : List X) → AreOnce (x ∷ xs) → AreOnce xs
once_tail x xs once i j d low within = once (suc i) (suc j) d (omega arith) (omega arith)

pub once_head : {X : Type 0} (x y : X) (xs : List X) → AreOnce (x ∷ xs) → Contains xs y → x ≡ y → ⊥
once_head x y xs once there same =
    let low : there.0 < length xs = there.1 in
    once 0 (suc there.0) y (omega arith) (omega arith) (same ∙ sym there.2)

-- Paths that follow one another.

-- the move that follows a path after another
pub follows_after : {M : Type 0} (may : List M → M → Type 0) (before path : List M) (x : M) (later : List M)
    → Follows may before (path ++ x ∷ later) → may (before ++ path) x
follows_after may before [] x later follows = subst (λ p. may p x) (sym (append-nil before)) follows.0
follows_after may before (y ∷ path) x later follows =
    subst (λ p. may p x) (append_assoc before (y ∷ []) path) (follows_after may (before ++ y ∷ []) path x later follows.1)

-- one move more
pub follows_more : {M : Type 0} (may : List M → M → Type 0) (before path : List M) (x : M)
    → Follows may before path → may (before ++ path) x → Follows may before (path ++ x ∷ [])
follows_more may before [] x follows more = (subst (λ p. may p x) (append-nil before) more, tt)
follows_more may before (y ∷ path) x follows more =
    (follows.0, follows_more may (before ++ y ∷ []) path x follows.1 (subst (λ p. may p x) (sym (append_assoc before (y ∷ []) path)) more))

-- Paths that part.

pub same_next : {M : Type 0} (common : List M) (a b : M) (r s : List M) → common ++ a ∷ r ≡ common ++ b ∷ s → a ≡ b
same_next [] a b r s e = cc
same_next (x ∷ common) a b r s e = same_next common a b r s (let t : common ++ a ∷ r ≡ common ++ b ∷ s = cc in t)

pub part_not_begins : {M : Type 0} (one other : List M) → Part one other → Begins other one → ⊥
part_not_begins one other p b =
    p.differ (sym (same_next p.common p.its p.mine p.its_rest (p.rest ++ b.rest)
    (sym p.its_is ∙ (b.is ∙ (ap (λ q. q ++ b.rest) p.is ∙ append_assoc p.common (p.mine ∷ p.rest) b.rest)))))

pub part_longer : {M : Type 0} (one other more : List M) → Part one other → Part one (other ++ more)
part_longer one other more p = record {
  common = p.common;
  mine = p.mine;
  its = p.its;
  differ = p.differ;
  rest = p.rest;
  its_rest = p.its_rest ++ more;
  is = p.is;
  its_is = ap (λ q. q ++ more) p.its_is ∙ append_assoc p.common (p.its ∷ p.its_rest) more;
}

pub part_first : {M : Type 0} (xs : List (List M)) (y : List M) → ArePart (xs ++ y ∷ []) → ArePart xs
part_first [] y part = tt
part_first (x ∷ xs) y part =
    (λ other there. part.0 other (Contains-append_left xs (y ∷ []) other there), part_first xs y part.1)

pub part_last : {M : Type 0} (xs : List (List M)) (y x : List M) → ArePart (xs ++ y ∷ []) → Contains xs x → Part x y
part_last [] y x part there = absurd (none_there x there)
part_last (z ∷ xs) y x part there = elim (Contains-append_cases (z ∷ []) xs x there) [
  | inl first ↦ subst (λ w. Part w y) (alone z x first) (part.0 y (Contains-append_right xs (y ∷ []) y (first_there y [])))
  | inr later ↦ part_last xs y x part.1 later
]

pub part_append : {M : Type 0} (xs ys : List (List M)) → ArePart xs → ArePart ys
    → ((x y : List M) → Contains xs x → Contains ys y → Part x y) → ArePart (xs ++ ys)
part_append [] ys part others each = others
part_append (x ∷ xs) ys part others each = (
  λ other there. elim (Contains-append_cases xs ys other there) [
    | inl mine ↦ part.0 other mine
    | inr its ↦ each x other (first_there x xs) its
  ],
  part_append xs ys part.1 others (λ a b there its. each a b (Contains-append_right (x ∷ []) xs a there) its),
)

pub part_map : {M : Type 0} (path moves : List M) → AreOnce moves → ArePart (map (λ x. path ++ x ∷ []) moves)
part_map path [] once = tt
part_map path (x ∷ moves) once = (
  λ other there.
      let of = mapped_by (λ y. path ++ y ∷ []) moves other there in
      record { common = path; mine = x; its = of.of; differ = once_head x of.of moves once of.there; rest = []; its_rest = []; is = refl; its_is = sym of.is },
  part_map path moves (once_tail x moves once),
)
