-- That a walk covers all lists of moves: `path_taken` when a path is taken, `no_path` when it can't be made, and `all_found` when none is left.
use Rattle.std.proofs.Common.{◌≡◌, ℕ, List, [], ◌∷◌, ◌++◌, map, Option, Some, None, refl, sym, subst, ap, ◌∙◌, ◌⊎◌, inl, inr, append_assoc, append-nil}
use Rattle.uring_crash_outcomes.proofs.Common.{AreShown, BeginsIn, Contains, Crash, IsShownAfter, Moment, Move, Setup, Sqe, TakesPath, after_moves, logs_after, moved, option_and_then, starting}
use Rattle.std.proofs.lemmas.List.Elements.{Contains-append_left, Contains-append_right, Contains-append_cases, Contains-push_cases}
use Rattle.uring_outcomes.proofs.Covering.{moves_after}
use Rattle.uring_crash_outcomes.proofs.Lists.{contained, is_in, in_map}
use Rattle.uring_crash_outcomes.proofs.Showing.{shown_after, shows_after}

same_some : (m n : Moment) → Some m ≡ Some n → m ≡ n
same_some m n e = cc

-- A path is taken, whose moves lead to this moment.

module _ (unit : ℕ) (g : Setup) (calls : List (List Sqe)) (path : List Move) (m : Moment) (leads : after_moves (starting g calls) path ≡ Some m) where
  -- what begins with it goes on from it by a move that can be made, unless it ends there
  goes_on : (todo : List (List Move)) (next : List Move) (found : List Crash) (rest : List Move) (last : Moment) (c : Crash)
      → ((x : Move) (n : Moment) → moved m x ≡ Some n → Contains next x)
      → ((d : Crash) → IsShownAfter unit g calls path m d → Contains found d)
      → after_moves (starting g calls) (path ++ rest) ≡ Some last → IsShownAfter unit g calls (path ++ rest) last c
      → Contains found c ⊎ BeginsIn (todo ++ map (λ x. path ++ x ∷ []) next) (path ++ rest)
  goes_on todo next found [] last c all noted ends shown =
      let end : path ++ [] ≡ path = append-nil path in
      let here : last ≡ m = same_some last m (sym ends ∙ (ap (after_moves (starting g calls)) end ∙ leads)) in
      inl (noted c (subst (λ y. IsShownAfter unit g calls path y c) here (subst (λ ms. IsShownAfter unit g calls ms last c) end shown)))
  goes_on todo next found (x ∷ later) last c all noted ends shown =
      by_next (moved m x) refl (sym (ap (option_and_then (λ y. after_moves y (x ∷ later))) leads) ∙ (sym (moves_after path (x ∷ later) (starting g calls)) ∙ ends)) where
        by_next : (o : Option Moment) → moved m x ≡ o → option_and_then (λ n. after_moves n later) o ≡ Some last
            → Contains found c ⊎ BeginsIn (todo ++ map (λ x. path ++ x ∷ []) next) (path ++ x ∷ later)
        by_next None is e = absurd cc
        by_next (Some n) is e = inr (record {
          path = path ++ x ∷ [];
          rest = later;
          there = Contains-append_right todo (map (λ y. path ++ y ∷ []) next) (path ++ x ∷ []) (contained (map (λ y. path ++ y ∷ []) next) (path ++ x ∷ []) (in_map (λ y. path ++ y ∷ []) next x (is_in next x (all x n is))));
          is = sym (append_assoc path (x ∷ []) later);
        })

  pub path_taken : (todo : List (List Move)) (next : List Move) (shown found : List Crash)
      → ((x : Move) (n : Moment) → moved m x ≡ Some n → Contains next x)
      → AreShown m.posted (logs_after unit g calls path) shown
      → TakesPath unit g calls path todo found (todo ++ map (λ x. path ++ x ∷ []) next) (found ++ shown)
  path_taken todo next shown found all are walk = record {
    covered = λ moves last c ends so. elim (walk.covered moves last c ends so) [
      | inl there ↦ inl (Contains-append_left found shown c there)
      | inr b ↦ elim (Contains-push_cases todo path b.path b.there) [
        | inl old ↦ inr (record {
          path = b.path;
          rest = b.rest;
          there = Contains-append_left todo (map (λ x. path ++ x ∷ []) next) b.path old;
          is = b.is;
        })
        | inr this ↦
            let is : moves ≡ path ++ b.rest = b.is ∙ ap (λ p. p ++ b.rest) (sym this) in
            subst (λ xs. Contains (found ++ shown) c ⊎ BeginsIn (todo ++ map (λ x. path ++ x ∷ []) next) xs) (sym is)
            (goes_on todo next (found ++ shown) b.rest last c all (λ d after. Contains-append_right found shown d (are.all d (shows_after unit g calls path m d after))) (sym (ap (after_moves (starting g calls)) is) ∙ ends) (subst (λ ms. IsShownAfter unit g calls ms last c) is so))
      ]
    ];
    right = λ c there. elim (Contains-append_cases found shown c there) [
      | inl old ↦ walk.right c old
      | inr new ↦
          let s : IsShownAfter unit g calls path m c = shown_after unit g calls path m c (are.right c new) in
          record { moves = path; last = m; leads = leads; posts = s.posts; left = s.left }
    ];
  }

-- Nothing begins with a path that can't be made.

pub no_path : (unit : ℕ) (g : Setup) (calls : List (List Sqe)) (path : List Move) (todo : List (List Move)) (found : List Crash)
    → after_moves (starting g calls) path ≡ None
    → TakesPath unit g calls path todo found todo found
no_path unit g calls path todo found none walk = record {
  covered = λ moves last c ends so. elim (walk.covered moves last c ends so) [
    | inl there ↦ inl there
    | inr b ↦ elim (Contains-push_cases todo path b.path b.there) [
      | inl old ↦ inr (record { path = b.path; rest = b.rest; there = old; is = b.is })
      | inr this ↦
          let is : moves ≡ path ++ b.rest = b.is ∙ ap (λ p. p ++ b.rest) (sym this) in
          let fails : ◌≡◌ {A = Option Moment} None (Some last) = sym (ap (option_and_then (λ y. after_moves y b.rest)) none) ∙ (sym (moves_after path b.rest (starting g calls)) ∙ (sym (ap (after_moves (starting g calls)) is) ∙ ends)) in
          absurd cc
    ]
  ];
  right = walk.right;
}
