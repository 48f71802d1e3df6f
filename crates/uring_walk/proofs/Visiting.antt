-- That a walk visits each path once, and leaves none out: `begins` at first, `visited` when a path is visited, `over` when none is left.
use Rattle.std.proofs.Common.{◌≡◌, ℕ, ◌+◌, ◌<◌, ◌≤◌, Bool, true, false, Option, Some, None, List, [], ◌∷◌, ◌++◌, length, get_or, map, refl, sym, subst, ap, ◌∙◌, ◌⊎◌, inl, inr, arith, append_assoc, append-nil}
use Rattle.std.specs.Prelude.{Contains, ◌==◌, is_some, not}
use Rattle.std.proofs.lemmas.Bool.{eqb-true}
use Rattle.std.proofs.lemmas.List.{length-append}
use Rattle.std.proofs.lemmas.List.Elements.{Contains-append_cases, Contains-append_left, Contains-append_right, Contains-push, Contains-push_cases, Contains-get_or}
use Rattle.std.proofs.lemmas.List.Quantifiers.{all_pairs_push}
use Rattle.uring_walk.specs.Paths.{IsPath, AreOnce, AreNext}
use Rattle.uring_walk.specs.Walks.{IsLeft, IsWalked}
use Rattle.uring_walk.specs.Amid.{Begins, BeginsIn, Part, IsAmid, IsAt, AreKept, StandsLast, Takes, Waits}
use Rattle.uring_walk.specs.declared.visits.End.TheVariants.{All, Found, Limit}
use Rattle.uring_walk.proofs.PathLists.{none_there, first_there, alone, contains_map, mapped_by, IsMapped, follows_after, follows_more, part_not_begins, part_longer, part_first, part_last, part_append, part_map}

pub begins : {M : Type 0} (due can : List M → M → Type 0) (sought : List M → Type 0) → IsAmid due can sought ([] ∷ []) []
begins due can sought = record {
  covered = λ path is. inr (record { first = []; there = first_there [] []; begins = record { rest = path; is = refl } });
  right = λ path there. absurd (none_there path there);
  may = λ path there. subst (IsPath can) (alone [] path there) tt;
  once = λ i j d low within. absurd (omega arith);
  part = (λ other there. absurd (none_there other there), tt);
  fresh = λ path first there todo begins. none_there path there;
  unsought = λ path there is_sought. none_there path there;
}

module _ {M : Type 0} (due can : List M → M → Type 0) (sought : List M → Type 0) where
  -- what begins with the path that is visited was visited by it, or begins with one of those that come next
  goes_on : (before : List (List M)) (path moves rest : List M) (seen : List (List M))
      → AreNext (due path) (can path) moves → IsPath due (path ++ rest)
      → Contains (seen ++ path ∷ []) (path ++ rest) ⊎ BeginsIn (before ++ map (λ x. path ++ x ∷ []) moves) (path ++ rest)
  goes_on before path moves [] seen next is =
      inl (subst (Contains (seen ++ path ∷ [])) (sym (append-nil path)) (Contains-push seen path))
  goes_on before path moves (x ∷ later) seen next is =
      inr (record {
        first = path ++ x ∷ [];
        there = Contains-append_right before (map (λ y. path ++ y ∷ []) moves) (path ++ x ∷ []) (contains_map (λ y. path ++ y ∷ []) moves x (next.all x (follows_after due [] path x later is)));
        begins = record { rest = later; is = sym (append_assoc path (x ∷ []) later) };
      })

  covers : (before : List (List M)) (path moves : List M) (seen : List (List M))
      → IsAmid due can sought (before ++ path ∷ []) seen → AreNext (due path) (can path) moves
      → (p : List M) → IsPath due p
      → Contains (seen ++ path ∷ []) p ⊎ BeginsIn (before ++ map (λ x. path ++ x ∷ []) moves) p
  covers before path moves seen amid next p is = elim (amid.covered p is) [
    | inl there ↦ inl (Contains-append_left seen (path ∷ []) p there)
    | inr b ↦ elim (Contains-push_cases before path b.first b.there) [
      | inl old ↦ inr (record { first = b.first; there = Contains-append_left before (map (λ x. path ++ x ∷ []) moves) b.first old; begins = b.begins })
      | inr this ↦
          let so : p ≡ path ++ b.begins.rest = b.begins.is ∙ ap (λ q. q ++ b.begins.rest) (sym this) in
          subst (λ q. Contains (seen ++ path ∷ []) q ⊎ BeginsIn (before ++ map (λ x. path ++ x ∷ []) moves) q) (sym so)
          (goes_on before path moves b.begins.rest seen next (subst (IsPath due) so is))
    ]
  ]

  may_be : (before : List (List M)) (path moves : List M) (seen : List (List M))
      → IsAmid due can sought (before ++ path ∷ []) seen → AreNext (due path) (can path) moves
      → (p : List M) → Contains (before ++ map (λ x. path ++ x ∷ []) moves) p → IsPath can p
  may_be before path moves seen amid next p there =
      elim (Contains-append_cases before (map (λ x. path ++ x ∷ []) moves) p there) [
        | inl old ↦ amid.may p (Contains-append_left before (path ∷ []) p old)
        | inr new ↦
            let of : IsMapped (λ x. path ++ x ∷ []) moves p = mapped_by (λ x. path ++ x ∷ []) moves p new in
            subst (IsPath can) of.is (follows_more can [] path of.of (amid.may path (Contains-push before path)) (next.right of.of of.there))
      ]

  -- no path is longer than itself
  not_longer : (path : List M) (x : M) (rest : List M) → path ≡ (path ++ x ∷ []) ++ rest → ⊥
  not_longer path x rest e =
      let f : length path ≡ length ((path ++ x ∷ []) ++ rest) = ap length e in
      let h : length ((path ++ x ∷ []) ++ rest) ≡ length path + 1 + length rest = length-append (path ++ x ∷ []) rest ∙ ap (λ n. n + length rest) (length-append path (x ∷ [])) in
      omega arith

  stays_fresh : (before : List (List M)) (path moves : List M) (seen : List (List M))
      → IsAmid due can sought (before ++ path ∷ []) seen
      → (p first : List M) → Contains (seen ++ path ∷ []) p → Contains (before ++ map (λ x. path ++ x ∷ []) moves) first → Begins p first → ⊥
  stays_fresh before path moves seen amid p first there todo b = elim (Contains-push_cases seen path p there) [
    | inl old ↦ elim (Contains-append_cases before (map (λ x. path ++ x ∷ []) moves) first todo) [
      | inl waits ↦ amid.fresh p first old (Contains-append_left before (path ∷ []) first waits) b
      | inr new ↦
          let of : IsMapped (λ x. path ++ x ∷ []) moves first = mapped_by (λ x. path ++ x ∷ []) moves first new in
          amid.fresh p path old (Contains-push before path) (record { rest = of.of ∷ b.rest; is = b.is ∙ (ap (λ q. q ++ b.rest) (sym of.is) ∙ append_assoc path (of.of ∷ []) b.rest) })
    ]
    | inr this ↦ elim (Contains-append_cases before (map (λ x. path ++ x ∷ []) moves) first todo) [
      | inl waits ↦ part_not_begins first path (part_last before path first amid.part waits) (record { rest = b.rest; is = this ∙ b.is })
      | inr new ↦
          let of : IsMapped (λ x. path ++ x ∷ []) moves first = mapped_by (λ x. path ++ x ∷ []) moves first new in
          not_longer path of.of b.rest (this ∙ (b.is ∙ ap (λ q. q ++ b.rest) (sym of.is)))
    ]
  ]

  pub once_more : (before : List (List M)) (path : List M) (seen : List (List M))
      → IsAmid due can sought (before ++ path ∷ []) seen → AreOnce (seen ++ path ∷ [])
  once_more before path seen amid =
      all_pairs_push (λ a b. a ≡ b → ⊥) seen path amid.once (λ k d low same. amid.fresh (get_or seen k d) path (Contains-get_or seen k d low) (Contains-push before path) (record { rest = []; is = same ∙ sym (append-nil path) }))

  pub visited : (before : List (List M)) (path moves : List M) (seen : List (List M))
      → IsAmid due can sought (before ++ path ∷ []) seen → AreNext (due path) (can path) moves → (sought path → ⊥)
      → IsAmid due can sought (before ++ map (λ x. path ++ x ∷ []) moves) (seen ++ path ∷ [])
  visited before path moves seen amid next unsought = record {
    covered = covers before path moves seen amid next;
    right = λ p there. elim (Contains-push_cases seen path p there) [
      | inl old ↦ amid.right p old
      | inr this ↦ subst (IsPath can) this (amid.may path (Contains-push before path))
    ];
    may = may_be before path moves seen amid next;
    once = once_more before path seen amid;
    part = part_append before (map (λ x. path ++ x ∷ []) moves) (part_first before path amid.part) (part_map path moves next.once)
        (λ x y there its.
        let of : IsMapped (λ z. path ++ z ∷ []) moves y = mapped_by (λ z. path ++ z ∷ []) moves y its in
        subst (Part x) of.is (part_longer x path (of.of ∷ []) (part_last before path x amid.part there)));
    fresh = stays_fresh before path moves seen amid;
    unsought = λ p there. elim (Contains-push_cases seen path p there) [
      | inl old ↦ amid.unsought p old
      | inr this ↦ (λ m. unsought (subst sought (sym this) m))
    ];
  }

  -- none is left
  pub over : (todo seen : List (List M)) → todo ≡ [] → IsAmid due can sought todo seen
      → (path : List M) → IsPath due path → Contains seen path
  over todo seen none amid path is = elim (amid.covered path is) [
    | inl there ↦ there
    | inr b ↦ absurd (none_there b.first (subst (λ ps. Contains ps b.first) none b.there))
  ]

  -- one is left
  pub left : (todo seen : List (List M)) (path : List M) → Contains todo path → IsAmid due can sought todo seen
      → IsLeft can seen
  left todo seen path there amid = record {
    path = path;
    is_path = amid.may path there;
    unseen = λ was. amid.fresh path path was there (record { rest = []; is = sym (append-nil path) });
  }

-- How a walk's function stands.

module _ {M P S N : Type 0} (due can : List M → M → Type 0) (sought : List M → Type 0) (stands : P → List M → Type 0) (keeps : S → List M → Type 0) (noted : N → List (List M) → Type 0) where
  pub at_first : (place : P) (spots : List S) (notes : N) (most : ℕ) → spots ≡ [] → stands place [] → noted notes []
      → IsAt due can sought stands keeps noted (Some place) spots notes most 0
  at_first place spots notes most none stands_there nothing = record {
    todo = [] ∷ [];
    seen = [];
    amid = begins due can sought;
    waits = record { before = []; path = []; is = refl; at = stands_there; kept = subst (λ ss. AreKept keeps ss []) (sym none) tt };
    notes_are = nothing;
    many = refl;
    few = omega arith;
  }

  -- the path that is visited is the last of those that wait
  amid_last : (before todo : List (List M)) (path : List M) (seen : List (List M)) → todo ≡ before ++ path ∷ []
      → IsAmid due can sought todo seen → IsAmid due can sought (before ++ path ∷ []) seen
  amid_last before todo path seen is = subst (λ ps. IsAmid due can sought ps seen) is

  -- a path was visited
  pub at_next : (todo seen : List (List M)) (place : P) (spots : List S) (last : StandsLast stands keeps place spots todo) (here : Option P) (left : List S) (notes : N) (most count : ℕ)
      → IsAmid due can sought todo seen → length seen ≡ count → count < most
      → Takes due can sought stands keeps last.before last.path here left false
      → noted notes (seen ++ last.path ∷ [])
      → IsAt due can sought stands keeps noted here left notes most (count + 1)
  at_next todo seen place spots last here left notes most count amid many low takes notes_are = record {
    todo = last.before ++ map (λ x. last.path ++ x ∷ []) takes.moves;
    seen = seen ++ last.path ∷ [];
    amid = visited due can sought last.before last.path takes.moves seen (amid_last last.before todo last.path seen last.is amid) takes.next (takes.unsought refl);
    waits = takes.waits;
    notes_are = notes_are;
    many = length-append seen (last.path ∷ []) ∙ ap (λ n. n + 1) many;
    few = omega (arith, low);
  }

  -- none waits
  pub ends_all : (most : ℕ) (todo seen : List (List M)) → todo ≡ [] → length seen ≤ most → IsAmid due can sought todo seen
      → IsWalked due can sought most seen All
  ends_all most todo seen none few amid = record {
    once = amid.once;
    right = amid.right;
    few = few;
    ends = (over due can sought todo seen none amid, amid.unsought);
  }

  -- the path that was visited is sought
  pub ends_found : (most : ℕ) (todo seen : List (List M)) (place : P) (spots : List S) (last : StandsLast stands keeps place spots todo) (here : Option P) (left : List S)
      → length seen < most → IsAmid due can sought todo seen → Takes due can sought stands keeps last.before last.path here left true
      → IsWalked due can sought most (seen ++ last.path ∷ []) Found
  ends_found most todo seen place spots last here left low amid takes =
      let now : IsAmid due can sought (last.before ++ last.path ∷ []) seen = amid_last last.before todo last.path seen last.is amid in record {
        once = once_more due can sought last.before last.path seen now;
        right = λ p there. elim (Contains-push_cases seen last.path p there) [
          | inl old ↦ amid.right p old
          | inr this ↦ subst (IsPath can) this (now.may last.path (Contains-push last.before last.path))
        ];
        few = let longer : length (seen ++ last.path ∷ []) ≡ length seen + 1 = length-append seen (last.path ∷ []) in omega (arith, low);
        ends = record { before = seen; path = last.path; is = refl; is_sought = takes.is_sought refl; others = amid.unsought };
      }

  -- one is left
  pub ends_limit : (most : ℕ) (todo seen : List (List M)) (path : List M) → Contains todo path → length seen ≡ most
      → IsAmid due can sought todo seen → IsWalked due can sought most seen Limit
  ends_limit most todo seen path there many amid = record {
    once = amid.once;
    right = amid.right;
    few = omega (arith, many);
    ends = (many, left due can sought todo seen path there amid, amid.unsought);
  }

  -- a path waits if a place or a spot does
  pub one_waits : (here : Option P) (spots : List S) (todo : List (List M)) → Waits stands keeps here spots todo
      → ((here ≡ None) × (spots ≡ []) → ⊥) → (path : List M) × Contains todo path
  one_waits None [] todo waits some = absurd (some (refl, refl))
  one_waits None (s ∷ spots) [] waits some = absurd waits
  one_waits None (s ∷ spots) (p ∷ todo) waits some = (p, first_there p todo)
  one_waits (Some place) spots todo waits some =
      (waits.path, subst (λ ps. Contains ps waits.path) (sym waits.is) (Contains-push waits.before waits.path))

pub not_both : (b : Bool) → b ≡ true → b ≡ false → ⊥
not_both b on off = cc

none_of : {S : Type 0} (spots : List S) → length spots ≡ 0 → spots ≡ []
none_of [] none = refl
none_of (s ∷ spots) none = absurd (omega (arith, none))

pub is_empty : {S : Type 0} (spots : List S) (n : ℕ) (b : Bool) → n ≡ length spots → b ≡ (n == 0) → b ≡ true → spots ≡ []
is_empty spots n b many is on = none_of spots (sym many ∙ eqb-true n 0 (sym is ∙ on))

pub not_empty : {S : Type 0} (spots : List S) (n : ℕ) (b : Bool) → n ≡ length spots → b ≡ (n == 0) → b ≡ false → spots ≡ [] → ⊥
not_empty spots n b many is off none =
    let e : true ≡ false = sym (is ∙ ap (λ k. k == 0) (many ∙ ap length none)) ∙ off in cc

pub not_none : {P : Type 0} (here : Option P) (b : Bool) → is_some here ≡ not b → b ≡ false → here ≡ None → ⊥
not_none here b is off none =
    let e : false ≡ true = sym (ap is_some none) ∙ (is ∙ ap not off) in cc
