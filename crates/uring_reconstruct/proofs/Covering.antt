-- That a search covers all histories: `path_taken` when a path is gone on from, `path_dropped` when it isn't lawful, and `none_left` when none is left.
use Rattle.std.proofs.Common.{◌≡◌, ℕ, ◌<◌, ◌≤◌, Bool, true, false, List, [], ◌∷◌, ◌++◌, length, map, refl, sym, ap, subst, ◌∙◌, ◌⊎◌, inl, inr, arith, append-nil}
use Rattle.uring_reconstruct.proofs.Common.{Contains, Contains-append_cases, Contains-append_left, Contains-append_right, Contains-push, Contains-push_cases, Event, GoesOn, HasLonger, History, IsFilling, IsLawfulApart, IsPart, IsReach, IsSearch, IsWhole, OneGoesOn, Setup, history_of, history_of_snoc, length-map, onto, paths_of, reverse, reverse-reverse, seen_in}
use Rattle.std.proofs.Math.ListN.{get_or-map}
use Rattle.std.specs.declared.vec.Vec.{Vec}
use Rattle.std.specs.declared.alloc.Global.{Global}
use Rattle.uring_reconstruct.specs.Found.{HasNone, HasFate, IsFound, filled_by}
use Rattle.uring_reconstruct.specs.declared.search.Fate.{Fate}
use Rattle.uring_reconstruct.specs.declared.search.Fate.TheVariants as fate
use Rattle.uring_reconstruct.specs.declared.search.Reach.{Reach}
use Rattle.uring_reconstruct.proofs.Begun.{begins_all}
use Rattle.uring_reconstruct.proofs.Going.{lawful_onto, goes_by, onto_is}

-- Lists.

there_mapped : {X Y : Type 0} (f : X → Y) (xs : List X) (x : X) → Contains xs x → Contains (map f xs) (f x)
there_mapped f xs x there = grind (arith, length-map, get_or-map)

none_there : {X : Type 0} (x : X) → Contains [] x → ⊥
none_there x there = let low : there.0 < 0 = there.1 in omega (arith, low)

-- what is in a list of one is that one
alone : {X : Type 0} (x y : X) → Contains (x ∷ []) y → x ≡ y
alone x y there = grind arith

record IsMapped {X Y : Type 0} (f : X → Y) (xs : List X) (y : Y) : Type 0 where
  of : X
  there : Contains xs of
  is : f of ≡ y

first_there : {X : Type 0} (x : X) (xs : List X) → Contains (x ∷ xs) x
first_there x xs = Contains-append_left (x ∷ []) xs x (0, omega arith, refl)

mapped_by : {X Y : Type 0} (f : X → Y) (xs : List X) (y : Y) → Contains (map f xs) y → IsMapped f xs y
mapped_by f [] y there = absurd (none_there y there)
mapped_by f (x ∷ xs) y there =
    elim (Contains-append_cases (f x ∷ []) (map f xs) y there) [
      | inl first ↦ record { of = x; there = first_there x xs; is = alone (f x) y first }
      | inr later ↦ (let m : IsMapped f xs y = mapped_by f xs y later in record { of = m.of; there = Contains-append_right (x ∷ []) xs m.of m.there; is = m.is })
    ]

not_asked : (whole : Bool) (P : Type 0) → (whole ≡ true → P) → (P → ⊥) → whole ≡ false
not_asked whole P is not = grind arith

-- A path isn't lawful.

pub path_dropped : (g : Setup) (seen path : List Event) (todo : List (List Event)) (events : List Event) (place : ℕ)
    → (IsLawfulApart g (history_of path) → ⊥)
    → IsSearch g seen (todo ++ path ∷ []) events place → IsSearch g seen todo events place
path_dropped g seen path todo events place unlawful s = record {
  covered = λ whole far from. elim (s.covered whole far from) [
    | inl near ↦ inl near
    | inr one ↦ elim (Contains-push_cases todo path one.path one.there) [
      | inl old ↦ inr (record { path = one.path; there = old; on = one.on })
      | inr this ↦ absurd (unlawful (subst (λ p. IsLawfulApart g (history_of p)) (sym this) (lawful_onto g one.on.later (history_of one.path) one.on.part.lawful)))
    ]
  ];
  parts = λ p there. s.parts p (Contains-append_left todo (path ∷ []) p there);
  reach = s.reach;
}

-- A path is gone on from.

pub path_taken : (g : Setup) (seen path : List Event) (todo after : List (List Event)) (events reached : List Event) (place far_place : ℕ)
    → IsPart g seen (history_of path) → HasLonger g seen path todo after
    → (IsWhole g seen (history_of path) → ⊥)
    → place ≤ far_place → length (seen_in (history_of path)) ≤ far_place
    → IsReach g seen reached far_place
    → IsSearch g seen (todo ++ path ∷ []) events place → IsSearch g seen after reached far_place
path_taken g seen path todo after events reached place far_place part longer not_whole more shows reach s = record {
  covered = λ whole far from. elim (s.covered whole far from) [
    | inl near ↦ inl (near.0, let low : far ≤ place = near.1 in omega arith)
    | inr one ↦ elim (Contains-push_cases todo path one.path one.there) [
      | inl old ↦ inr (record { path = one.path; there = subst (λ ps. Contains ps one.path) (sym longer.is) (Contains-append_left todo (map (λ x. path ++ x ∷ []) longer.next) one.path old); on = one.on })
      | inr this ↦ from_path whole far (subst (λ p. GoesOn g seen whole far (history_of p)) (sym this) one.on)
    ]
  ];
  parts = λ p there lawful. elim (Contains-append_cases todo (map (λ x. path ++ x ∷ []) longer.next) p (subst (λ ps. Contains ps p) longer.is there)) [
    | inl old ↦ s.parts p (Contains-append_left todo (path ∷ []) p old) lawful
    | inr new ↦
        let m : IsMapped (λ x. path ++ x ∷ []) longer.next p = mapped_by (λ x. path ++ x ∷ []) longer.next p new in
        let here : history_of p ≡ m.of ∷ history_of path = ap history_of (sym m.is) ∙ history_of_snoc path m.of in
        subst (IsPart g seen) (sym here) (longer.right m.of m.there (subst (IsLawfulApart g) here lawful))
  ];
  reach = reach;
} where
  from_path : (whole : Bool) (far : ℕ) → GoesOn g seen whole far (history_of path) → ((whole ≡ false) × (far ≤ far_place)) ⊎ OneGoesOn g seen whole far after
  from_path whole far on =
      elim (goes_by g seen whole far on.later (history_of path) longer.next part longer.all on.part on.so_far on.is_whole) [
        | inl here ↦ inl (not_asked whole (IsWhole g seen (history_of path)) here.is_whole not_whole, let e : length (seen_in (history_of path)) ≡ far = here.so_far in omega arith)
        | inr next ↦ inr (record {
          path = path ++ next.event ∷ [];
          there = subst (λ ps. Contains ps (path ++ next.event ∷ [])) (sym longer.is) (Contains-append_right todo (map (λ x. path ++ x ∷ []) longer.next) (path ++ next.event ∷ []) (there_mapped (λ x. path ++ x ∷ []) longer.next next.event next.there));
          on = subst (GoesOn g seen whole far) (sym (history_of_snoc path next.event)) next.on;
        })
      ]

-- The beginning, and the end.

empty_part : (g : Setup) (seen : List Event) → IsPart g seen []
empty_part g seen = grind arith

pub at_first : (g : Setup) (seen : List Event) → IsSearch g seen ([] ∷ []) [] 0
at_first g seen = record {
  covered = λ whole far from. inr (record { path = []; there = (0, omega arith, refl); on = from });
  parts = λ path there lawful. subst (λ p. IsPart g seen (history_of p)) (alone [] path there) (empty_part g seen);
  reach = record { part = empty_part g seen; shows = refl };
}

-- what a whole history goes on from is the empty one
from_nothing : (g : Setup) (seen : List Event) (whole : Bool) (h : History) → IsPart g seen h
    → (whole ≡ true → IsWhole g seen h) → GoesOn g seen whole (length (seen_in h)) []
from_nothing g seen whole h part is_whole =
    let e : onto [] (reverse h) ≡ h = onto_is (reverse h) [] ∙ append-nil (history_of (reverse h)) ∙ reverse-reverse h in
    record {
      later = reverse h;
      part = subst (IsPart g seen) (sym e) part;
      so_far = ap (λ k. length (seen_in k)) e;
      is_whole = λ w. subst (IsWhole g seen) (sym e) (is_whole w);
    }

filling_part : (g : Setup) (seen : List Event) (h : History) → IsFilling g seen h → IsPart g seen h
filling_part g seen h f = grind (arith, begins_all)

none_in : (g : Setup) (seen : List Event) (whole : Bool) (far : ℕ) → OneGoesOn g seen whole far [] → ⊥
none_in g seen whole far one = none_there one.path one.there

pub none_left : (g : Setup) (seen events : List Event) (place : ℕ) → IsSearch g seen [] events place
    → HasNone g seen place
none_left g seen events place s = record {
  none = λ h f. elim (s.covered true (length (seen_in h)) (from_nothing g seen true h (filling_part g seen h f) (λ w. record { shows = f.shows; none_outstanding = f.none_outstanding; posted = f.posted }))) [
    | inl near ↦ (let e : true ≡ false = near.0 in cc)
    | inr one ↦ none_in g seen true (length (seen_in h)) one
  ];
  furthest = λ h p. elim (s.covered false (length (seen_in h)) (from_nothing g seen false h p (λ w. absurd (let e : false ≡ true = w in cc)))) [
    | inl near ↦ near.1
    | inr one ↦ absurd (none_in g seen false (length (seen_in h)) one)
  ];
}

-- A path is looked at on a core whose set-up is another's.

pub visited_part : (g o : Setup) (seen path : List Event) (todo : List (List Event)) (events : List Event) (place : ℕ)
    → o ≡ g → IsSearch g seen (todo ++ path ∷ []) events place → IsLawfulApart o (history_of path)
    → IsPart o seen (history_of path)
visited_part g o seen path todo events place same s lawful = grind (arith, Contains-push)

pub visited_reach : (g o : Setup) (seen events : List Event) (place : ℕ) → o ≡ g
    → IsReach g seen events place → IsReach o seen events place
visited_reach g o seen events place same reach = grind arith

pub visited_fills : (g o : Setup) (seen path reached : List Event) → o ≡ g
    → IsPart o seen (history_of path)
    → (reached ≡ path) × IsWhole o seen (history_of path) → IsFilling g seen (history_of reached)
visited_fills g o seen path reached same part whole = grind arith

pub visited_on : (g o : Setup) (seen path : List Event) (todo after : List (List Event)) (events reached : List Event) (place far_place : ℕ)
    → o ≡ g → IsPart o seen (history_of path) → HasLonger o seen path todo after
    → (IsWhole o seen (history_of path) → ⊥)
    → (place ≤ far_place) × (length (seen_in (history_of path)) ≤ far_place)
    → IsReach o seen reached far_place
    → IsSearch g seen (todo ++ path ∷ []) events place → IsSearch g seen after reached far_place
visited_on g o seen path todo after events reached place far_place same part longer not_whole far reach =
    subst (λ k. IsSearch k seen (todo ++ path ∷ []) events place → IsSearch k seen after reached far_place) same
    (path_taken o seen path todo after events reached place far_place part longer not_whole far.0 far.1 reach)

-- The search's own functions.

pub begins : (g : Setup) (seen : List Event) (old todo : List (Vec Event Global)) (path : Vec Event Global) (events : List Event) (place : ℕ)
    → old ≡ [] → todo ≡ old ++ path ∷ [] → path.items ≡ [] → events ≡ [] → place ≡ 0
    → IsSearch g seen (paths_of todo) events place
begins g seen old todo path events place none is empty unreached nowhere = grind (arith, (at_first g seen))

pub fate_found : (g : Setup) (seen : List Event) (now : Fate) (todo : List (List Event)) (reach : Reach)
    → HasFate g seen now todo reach → IsFound g seen (filled_by now reach)
fate_found g seen now todo reach has = grind (arith, none_left)

pub open_search : (g : Setup) (seen : List Event) (now : Fate) (todo : List (List Event)) (reach : Reach)
    → now ≡ fate.Open → HasFate g seen now todo reach
    → IsSearch g seen todo reach.events.items reach.place
open_search g seen now todo reach is has = subst (λ f. HasFate g seen f todo reach) is has
