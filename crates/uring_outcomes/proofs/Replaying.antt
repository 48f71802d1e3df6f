-- Moves that are made one after the other, and the moves that can be made next.
use Rattle.std.proofs.Common.{◌≡◌, ℕ, suc, ◌+◌, ◌<◌, Bool, true, false, List, [], ◌∷◌, ◌++◌, length, take, drop, get_or, Option, Some, None, sym, subst, ap, ◌∙◌, arith, ◌≤◌, ◌⊎◌, inl, inr}
use Rattle.std.specs.Prelude.{IfOk, IsSome, Result, Ok, Err}
use Rattle.std.proofs.lemmas.List.Quantifiers.{all_pairs_push}
use Rattle.uring_walk.specs.Paths.{AreOnce}
use Rattle.uring_walk.proofs.PathLists.{alone, none_there}
use Rattle.uring_outcomes.proofs.Common.{AreRanked, CanAll, Contains, Contains-get_or, Contains-push_cases, Global, HasBelow, HasNext, IsNextUnnamed, IsDirect, IsQuiet, IsReached, LedTo, MadeAs, Moment, Move, Run, Sqe, Stands, StandsAt, Vec, after_moves, among, drop-cons, get_or_default, is_finishable, is_issuable, moved, option_and_then, rank, take-append-drop, take_more}
use Rattle.uring_outcomes.specs.declared.move_of_calls.Move.TheVariants as move
use Rattle.uring_outcomes.proofs.MovesLead.{one_move_more}
use Rattle.uring_outcomes.proofs.Covering.{moves_after}
use Rattle.uring_outcomes.proofs.Moving.{accept_some, finish_some, not_made}

-- what is so of a move that was made, and of one that wasn't
pub record IsMade (P : Moment → Type 0) (o : Option Moment) : Type 0 where
  pub next : Moment
  pub is : o ≡ Some next
  pub so : P next

pub made_tells : (P : Moment → Type 0) (o : Option Moment) → MadeAs true o P → IsMade P o
made_tells P o made = grind arith

pub not_made_tells : (P : Moment → Type 0) (o : Option Moment) → MadeAs false o P → o ≡ None
not_made_tells P o made = grind arith

pub led_on : (calls : List (List Sqe)) (m : Moment) (path : List Move) (k : ℕ) (x : Move) (old new : Run)
    → k < length path → x ≡ get_or path k x → LedTo calls m (take k path) old
    → ((n : Moment) → StandsAt calls old n → MadeAs true (moved n x) (StandsAt calls new))
    → LedTo calls m (take (k + 1) path) new
led_on calls m path k x old new low is led made = grind (arith, (take_more path k x low), (one_move_more (take k path) m x))

pub led_nowhere : (calls : List (List Sqe)) (m : Moment) (path : List Move) (k : ℕ) (x : Move) (old new : Run)
    → k < length path → x ≡ get_or path k x → LedTo calls m (take k path) old
    → ((n : Moment) → StandsAt calls old n → MadeAs false (moved n x) (StandsAt calls new))
    → MadeAs false (after_moves m path) (StandsAt calls new)
led_nowhere calls m path k x old new low is led made =
    let stops : moved led.last x ≡ None = not_made_tells (StandsAt calls new) (moved led.last x) (made led.last led.at) in
    let rest : drop k path ≡ x ∷ drop (suc k) path = drop-cons path k x low ∙ ap (λ y. y ∷ drop (suc k) path) (sym is) in
    let split : path ≡ take k path ++ (x ∷ drop (suc k) path) = sym (take-append-drop k path) ∙ ap (λ ys. take k path ++ ys) rest in
    not_made (StandsAt calls new) (after_moves m path)
    (ap (after_moves m) split ∙ (moves_after (take k path) (x ∷ drop (suc k) path) m ∙ (ap (option_and_then (λ y. after_moves y (x ∷ drop (suc k) path))) led.leads ∙ ap (option_and_then (λ n. after_moves n (drop (suc k) path))) stops)))

-- The same by the place of the move.

pub stands_on_at : (calls : List (List Sqe)) (old new : Run) (path : List Move) (k : ℕ) (d : Move) (made : Bool)
    → Stands calls old → made ≡ true
    → ((m : Moment) → StandsAt calls old m → MadeAs made (moved m (get_or path k d)) (StandsAt calls new))
    → Stands calls new
stands_on_at calls old new path k d made s is makes = grind arith

pub led_on_at : (calls : List (List Sqe)) (m : Moment) (path : List Move) (k : ℕ) (d : Move) (old new : Run) (made : Bool)
    → k < length path → LedTo calls m (take k path) old → made ≡ true
    → ((n : Moment) → StandsAt calls old n → MadeAs made (moved n (get_or path k d)) (StandsAt calls new))
    → LedTo calls m (take (k + 1) path) new
led_on_at calls m path k d old new made low led is makes =
    led_on calls m path k (get_or path k d) old new low (get_or_default path k d (get_or path k d) low) led (λ n at. subst (λ b. MadeAs b (moved n (get_or path k d)) (StandsAt calls new)) is (makes n at))

pub led_nowhere_at : (calls : List (List Sqe)) (m : Moment) (path : List Move) (k : ℕ) (d : Move) (old new : Run) (made : Bool)
    → k < length path → LedTo calls m (take k path) old → made ≡ false
    → ((n : Moment) → StandsAt calls old n → MadeAs made (moved n (get_or path k d)) (StandsAt calls new))
    → MadeAs false (after_moves m path) (StandsAt calls new)
led_nowhere_at calls m path k d old new made low led is makes =
    led_nowhere calls m path k (get_or path k d) old new low (get_or_default path k d (get_or path k d) low) led (λ n at. subst (λ b. MadeAs b (moved n (get_or path k d)) (StandsAt calls new)) is (makes n at))

-- What can be made next.

pub more_below : (m : Moment) (k : ℕ) (old new : List Move) → HasBelow m k old
    → ((x : Move) → Contains old x → Contains new x)
    → (is_issuable m.requests k ≡ true → Contains new (move.Issue k))
    → (is_finishable m.requests k ≡ true → Contains new (move.Finish k))
    → HasBelow m (k + 1) new
more_below m k old new below kept issue finish = grind arith

-- every move that can be made is among these, and so each direct one
pub next_any : (names : List ℕ) (m : Moment) (xs : List Move)
    → ((x : Move) (next : Moment) → moved m x ≡ Some next → Contains xs x) → CanAll m xs → AreOnce xs
    → HasNext names m xs
next_any names m xs all right once = record { all = λ x next is wanted. all x next is; right = right; once = once }

pub next_by : {E : Type 0} (r : Result (Vec Move Global) E) (names : List ℕ) (m : Moment)
    → IfOk r (λ moves. (x : Move) (next : Moment) → moved m x ≡ Some next → Contains moves.items x)
    → IfOk r (λ moves. CanAll m moves.items) → IfOk r (λ moves. AreOnce moves.items)
    → IfOk r (λ moves. HasNext names m moves.items)
next_by (Ok moves) names m all right once = next_any names m moves.items all right once
next_by (Err e) names m all right once = tt

once_alone : (x : Move) → AreOnce (x ∷ [])
once_alone x i j d low within = absurd (omega arith)

-- if the next call is unnamed, only its acceptance is direct
pub next_accept : (names : List ℕ) (m : Moment) → IsNextUnnamed (among names) m
    → HasNext names m (move.Accept ∷ [])
next_accept names m unnamed = record {
  all = λ x next made wanted. (0, omega arith, sym (wanted.accepts unnamed));
  right = λ x there. subst (λ y. IsSome (moved m y)) (alone move.Accept x there) (accept_some m unnamed.call unnamed.later unnamed.left);
  once = once_alone move.Accept;
}

direct_finish : (names : List ℕ) (m next : Moment) (n : ℕ) (x : Move) → IsQuiet names m n
    → (IsNextUnnamed (among names) m → ⊥) → IsDirect (among names) m x → Contains (move.Finish n ∷ []) x
direct_finish names m next n x quiet named wanted = grind arith

-- and else, while a request runs that isn't named, only its finish is
pub next_finish : (names : List ℕ) (calls : List (List Sqe)) (m : Moment) (n : ℕ) → IsReached calls m → IsQuiet names m n
    → (IsNextUnnamed (among names) m → ⊥) → HasNext names m (move.Finish n ∷ [])
next_finish names calls m n reached quiet named = record {
  all = λ x next made wanted. direct_finish names m next n x quiet named wanted;
  right = λ x there. subst (λ y. IsSome (moved m y)) (alone (move.Finish n) x there) (finish_some calls m n reached quiet.runs);
  once = once_alone (move.Finish n);
}

-- What is added to moves, by their ranks.

pub can_push : (m : Moment) (xs : List Move) (x : Move) → CanAll m xs → IsSome (moved m x) → CanAll m (xs ++ x ∷ [])
can_push m xs x all can y there = elim (Contains-push_cases xs x y there) [
  | inl old ↦ all y old
  | inr this ↦ subst (λ z. IsSome (moved m z)) this can
]

pub ranked_push : (below : ℕ) (xs : List Move) (x : Move) → AreRanked below xs → below ≤ rank x
    → AreRanked (rank x + 1) (xs ++ x ∷ [])
ranked_push below xs x ranked low = record {
  low = λ y there. elim (Contains-push_cases xs x y there) [
    | inl old ↦ (let before = ranked.low y old in omega arith)
    | inr this ↦ (let same : rank x ≡ rank y = ap rank this in omega arith)
  ];
  once = all_pairs_push (λ a b. a ≡ b → ⊥) xs x ranked.once (λ k d within same.
      let before : rank (get_or xs k d) < below = ranked.low (get_or xs k d) (Contains-get_or xs k d within) in
      let alike : rank (get_or xs k d) ≡ rank x = ap rank same in omega arith);
}

pub ranked_more : (below more : ℕ) (xs : List Move) → below ≤ more → AreRanked below xs → AreRanked more xs
ranked_more below more xs le ranked = record { low = λ y there. (let before = ranked.low y there in omega arith); once = ranked.once }

pub ranked_none : (xs : List Move) → xs ≡ [] → AreRanked 0 xs
ranked_none xs none = subst (AreRanked 0) (sym none) (record {
  low = λ y there. absurd (none_there y there);
  once = λ i j d low within. absurd (omega arith);
})

pub can_none : (m : Moment) (xs : List Move) → xs ≡ [] → CanAll m xs
can_none m xs none = subst (CanAll m) (sym none) (λ y there. absurd (none_there y there))
