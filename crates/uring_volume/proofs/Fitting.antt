-- What may be left of some writes, wherever they lie: a choice gives it, and it is what some choice gives.
use Rattle.std.proofs.Common.{◌≡◌, ◌==◌, ℕ, Bool, true, false, not, List, [], ◌∷◌, ◌++◌, ◌⊎◌, refl, sym, subst, ap, inl, inr, arith}
use Rattle.uring_volume.proofs.Common.{History, IsIn, IsInOrder, IsLawful, SyncEnded, SyncIssued, Write, WriteEnded, WriteFailed, WriteIssued, after, and_from, and_parts, both_ways, cases_Bool, chosen, cond-false, cond-true, cond_both, eq-eqb, eqb-true, false_from_ne_true, filter, goes_along, has_ended, is_before, is_covered, is_done, is_safe, list_any, may_come, may_follow, named, ne_eqb, not-true, not_from_false, or_cases, up_to_safe, waits_for_one}
use Rattle.uring_volume.proofs.Units.{in_filter, of_filter, filter_in_order}

-- Tests of lists.

any_in : (p : Write → Bool) (x : Write) (xs : List Write) → IsIn x xs → p x ≡ true
    → list_any p xs ≡ true
any_in p x [] among is = absurd among
any_in p x (y ∷ ys) among is = grind (arith, (any_in p x ys))

pub none_in : (p : Write → Bool) (xs : List Write) → ((x : Write) → IsIn x xs → p x ≡ false)
    → list_any p xs ≡ false
none_in p [] none = refl
none_in p (y ∷ ys) none = grind (arith, (none_in p ys))

pub not_in : (p : Write → Bool) (x : Write) (xs : List Write) → list_any p xs ≡ false → IsIn x xs
    → p x ≡ false
not_in p x xs none among =
    false_from_ne_true (p x) (λ is. both_ways (list_any p xs) none (any_in p x xs among is))

pub in_left : {X : Type 0} (x : X) (xs ys : List X) → IsIn x xs → IsIn x (xs ++ ys)
in_left x [] ys among = absurd among
in_left x (z ∷ xs) ys among = grind (arith, (in_left x xs ys))

pub in_right : {X : Type 0} (x : X) (xs ys : List X) → IsIn x ys → IsIn x (xs ++ ys)
in_right x [] ys among = among
in_right x (z ∷ xs) ys among = inr (in_right x xs ys among)

pub in_either : {X : Type 0} (x : X) (xs ys : List X) → IsIn x (xs ++ ys) → IsIn x xs ⊎ IsIn x ys
in_either x [] ys among = inr among
in_either x (z ∷ xs) ys among = grind (arith, (in_either x xs ys))

pub append_in_order : (h : History) (xs ys : List Write) → IsInOrder h xs → IsInOrder h ys
    → ((x m : Write) → IsIn x xs → IsIn m ys → is_before h m.number x.number ≡ false)
    → ((x : Write) → IsIn x xs → IsIn x ys → ⊥)
    → IsInOrder h (xs ++ ys)
append_in_order h [] ys ox oy after apart = oy
append_in_order h (x ∷ xs) ys ox oy after apart = (
  λ m among. grind (arith, (in_either m xs ys among)),
  λ among. grind (arith, (in_either x xs ys among)),
  append_in_order h xs ys ox.2 oy (λ y m among. after y m (inr among)) (λ y among. apart y (inr among)),
)

-- What has ended, and what is done.

pub ended_done : (h : History) (n : ℕ) → has_ended h n ≡ true → is_done h n ≡ true
ended_done [] n is = absurd (both_ways false refl is)
ended_done (WriteEnded m ∷ earlier) n is = grind (arith, (ended_done earlier n))
ended_done (WriteFailed m ∷ earlier) n is = grind (arith, (ended_done earlier n))
ended_done (e ∷ earlier) n is = ended_done earlier n is

-- a write that goes along with another has ended, and is before it
pub along_ended : (h : History) (m n : ℕ) → goes_along h m n ≡ true → has_ended h m ≡ true
along_ended [] m n is = absurd (both_ways false refl is)
along_ended (WriteIssued w ∷ earlier) m n is = grind (arith, (along_ended earlier m n))
along_ended (WriteEnded k ∷ earlier) m n is = grind (arith, (along_ended earlier m n))
along_ended (e ∷ earlier) m n is = along_ended earlier m n is

pub along_before : (h : History) (m n : ℕ) → goes_along h m n ≡ true → is_before h m n ≡ true
along_before [] m n is = is
along_before (WriteIssued w ∷ earlier) m n is = grind (arith, ended_done, (along_before earlier m n))
along_before (e ∷ earlier) m n is = along_before earlier m n is

-- a write that isn't done is before none
pub not_before : (h : History) (m n : ℕ) → is_done h m ≡ false → is_before h m n ≡ false
not_before [] m n open_yet = refl
not_before (WriteIssued w ∷ earlier) m n open_yet = grind (arith, (not_before earlier m n))
not_before (WriteEnded k ∷ earlier) m n open_yet = grind (arith, (not_before earlier m n))
not_before (WriteFailed k ∷ earlier) m n open_yet = grind (arith, (not_before earlier m n))
not_before (e ∷ earlier) m n open_yet = not_before earlier m n open_yet

-- what has ended with success goes along with each write that it is before: it is done once
pub before_along : (h : History) (m n : ℕ) → IsLawful h → has_ended h m ≡ true → is_before h m n ≡ true
    → goes_along h m n ≡ true
before_along [] m n l ended before = before
before_along (WriteIssued w ∷ earlier) m n l ended before = grind (arith, (before_along earlier m n l.2))
before_along (WriteEnded k ∷ earlier) m n l ended before =
    grind (arith, eqb-true, (not_before earlier m n), l.0, (before_along earlier m n l.1))
before_along (WriteFailed k ∷ earlier) m n l ended before = before_along earlier m n l.1 ended before
before_along (e ∷ earlier) m n l ended before = before_along earlier m n l ended before

covered_ended : (h : History) (s : ℕ) (w : Write) → is_covered h s w ≡ true
    → has_ended h w.number ≡ true
covered_ended [] s w is = absurd (both_ways false refl is)
covered_ended (WriteEnded k ∷ earlier) s w is = grind (arith, (covered_ended earlier s w))
covered_ended (SyncIssued t range ∷ earlier) s w is = grind (arith, (covered_ended earlier s w), or_cases, and_parts)
covered_ended (e ∷ earlier) s w is = covered_ended earlier s w is

pub safe_ended : (h : History) (w : Write) → is_safe h w ≡ true → has_ended h w.number ≡ true
safe_ended [] w is = absurd (both_ways false refl is)
safe_ended (WriteEnded k ∷ earlier) w is = grind (arith, (safe_ended earlier w))
safe_ended (SyncEnded t ∷ earlier) w is = grind (arith, covered_ended, or_cases, and_parts, (safe_ended earlier w))
safe_ended (e ∷ earlier) w is = safe_ended earlier w is

pub unended_never_safe : (h : History) (w : Write) → has_ended h w.number ≡ false → is_safe h w ≡ false
unended_never_safe h w out = false_from_ne_true (is_safe h w) (λ is. both_ways (has_ended h w.number) out (safe_ended h w is))

-- What may be left of some writes, wherever they lie.

pub record FitsIn (h : History) (rest order : List Write) : Type 0 where
  pub within : (w : Write) → IsIn w order → IsIn w rest
  pub safe : (w : Write) → IsIn w rest → is_safe h w ≡ true → IsIn w order
  pub closed : (m w : Write) → IsIn m rest → IsIn w order → goes_along h m.number w.number ≡ true
      → IsIn m order
  pub in_order : IsInOrder h order

-- No two of these writes have the same number, none is before itself, and what has ended with success goes along with what it is before.
pub record AreApart (h : History) (rest : List Write) : Type 0 where
  pub in_order : IsInOrder h rest
  pub unique : (x y : Write) → IsIn x rest → IsIn y rest → x.number ≡ y.number → x ≡ y
  pub irreflexive : (x : Write) → IsIn x rest → is_before h x.number x.number ≡ false
  pub along : (m n : ℕ) → has_ended h m ≡ true → is_before h m n ≡ true → goes_along h m n ≡ true

pub apart_filter : (h : History) (p : Write → Bool) (rest : List Write) → AreApart h rest
    → AreApart h (filter p rest)
apart_filter h p rest a = record {
  in_order = filter_in_order h p rest a.in_order;
  unique = λ x y ax ay same. a.unique x y (of_filter p x rest ax).0 (of_filter p y rest ay).0 same;
  irreflexive = λ x among. a.irreflexive x (of_filter p x rest among).0;
  along = a.along;
}

-- Soundness.

safe_fits_with : (h : History) (w : Write) (later : List Write) → IsInOrder h (w ∷ later)
    → FitsIn h later (up_to_safe h later) → FitsIn h (w ∷ later) (w ∷ up_to_safe h later)
safe_fits_with h w later o f = grind (arith, along_before)

safe_fits : (h : History) (rest : List Write) → IsInOrder h rest → FitsIn h rest (up_to_safe h rest)
safe_fits h [] o = grind arith
safe_fits h (w ∷ later) o = grind (arith, safe_fits_with, not_in, cond-true, cond-false, (safe_fits h later o.2))

-- whether a write has the number n
abbrev pub has : ℕ → Write → Bool
has n w = w.number == n

abbrev pub lacks : ℕ → Write → Bool
lacks n w = not (w.number == n)

-- a write that has ended, and for which write n doesn't wait, may follow it
follows : (h : History) (n : ℕ) (rest : List Write) (x : Write) → AreApart h rest
    → waits_for_one h rest n ≡ false → IsIn x rest → has n x ≡ false → has_ended h x.number ≡ true
    → may_follow h n x ≡ true
follows h n rest x a free among out ended =
    let none : goes_along h x.number n ≡ false = not_in (λ y. goes_along h y.number n) x rest free among in
    let apart : is_before h x.number n ≡ false = false_from_ne_true (is_before h x.number n) (λ is. both_ways (goes_along h x.number n) none (a.along x.number n ended is)) in
    and_from _ _ (not_from_false (has n x) out) (not_from_false (is_before h x.number n) apart)

pub place_fits : (h : History) (n : ℕ) (rest order : List Write) → AreApart h rest
    → waits_for_one h rest n ≡ false → FitsIn h (after h n rest) order
    → FitsIn h rest (named n rest ++ order)
place_fits h n rest order a free f =
    let names = λ (x : Write) (among : IsIn x (named n rest)). of_filter (has n) x rest among in
    let lies = λ (x : Write) (among : IsIn x order). of_filter (may_follow h n) x rest (f.within x among) in
    let parts = λ (x : Write) (among : IsIn x order). and_parts (not (has n x)) (not (is_before h x.number n)) (lies x among).1 in
    record {
      within = λ x among. elim (in_either x (named n rest) order among) [
        | inl left ↦ (names x left).0
        | inr right ↦ (lies x right).0
      ];
      safe = λ x among safe. elim (cases_Bool (has n x)) [
        | inl is ↦ in_left x (named n rest) order (in_filter (has n) x rest among is)
        | inr out ↦ in_right x (named n rest) order (f.safe x (in_filter (may_follow h n) x rest among (follows h n rest x a free among out (safe_ended h x safe))) safe)
      ];
      closed = λ m x among kept along. elim (in_either x (named n rest) order kept) [
        | inl left ↦ absurd (both_ways (goes_along h m.number n) (not_in (λ y. goes_along h y.number n) m rest free among) (subst (λ k. goes_along h m.number k ≡ true) (eqb-true x.number n (names x left).1) along))
        | inr right ↦ elim (cases_Bool (has n m)) [
          | inl is ↦ in_left m (named n rest) order (in_filter (has n) m rest among is)
          | inr out ↦ in_right m (named n rest) order (f.closed m x (in_filter (may_follow h n) m rest among (follows h n rest m a free among out (along_ended h m.number x.number along))) right along)
        ]
      ];
      in_order = append_in_order h (named n rest) order (filter_in_order h (has n) rest a.in_order) f.in_order
          (λ x m left right. subst (λ k. is_before h m.number k ≡ false) (sym (eqb-true x.number n (names x left).1)) (not-true (is_before h m.number n) (parts m right).1))
          (λ x left right. both_ways (has n x) (not-true (has n x) (parts x right).0) (names x left).1);
    }

pub chosen_fits : (h : History) (rest : List Write) (choice : List ℕ) → AreApart h rest
    → FitsIn h rest (chosen h rest choice)
chosen_fits h rest [] a = safe_fits h rest a.in_order
chosen_fits h rest (n ∷ more) a =
    cond_both (may_come h rest n) (named n rest ++ chosen h (after h n rest) more) (chosen h rest more) (λ ws. FitsIn h rest ws)
    (λ comes. place_fits h n rest (chosen h (after h n rest) more) a (not-true (waits_for_one h rest n) (and_parts (list_any (has n) rest) (not (waits_for_one h rest n)) comes).1)
    (chosen_fits h (after h n rest) more (apart_filter h (may_follow h n) rest a)))
    (λ none. chosen_fits h rest more a)

-- Completeness.

filter_none : (p : Write → Bool) (xs : List Write) → ((x : Write) → IsIn x xs → p x ≡ false)
    → filter p xs ≡ []
filter_none p [] none = refl
filter_none p (y ∷ ys) none = grind (arith, (filter_none p ys))

pub named_is : (h : History) (w : Write) (rest : List Write) → AreApart h rest → IsIn w rest
    → named w.number rest ≡ w ∷ []
named_is h w [] a among = absurd among
named_is h w (y ∷ ys) a among = grind (arith, filter_none, ne_eqb, eq-eqb, (named_is h w ys))

none_left : (h : History) (rest : List Write)
    → ((w : Write) → IsIn w rest → is_safe h w ≡ true → ⊥)
    → up_to_safe h rest ≡ []
none_left h [] none = refl
none_left h (w ∷ later) none = grind (arith, none_in, false_from_ne_true, cond-false)

-- the numbers of these writes
abbrev pub numbers : List Write → List ℕ
numbers [] = []
numbers (w ∷ later) = w.number ∷ numbers later

pub first_is_free : (h : History) (rest : List Write) (w : Write) (more : List Write) → AreApart h rest
    → FitsIn h rest (w ∷ more) → waits_for_one h rest w.number ≡ false
first_is_free h rest w more a f = grind (arith, none_in, false_from_ne_true, along_before)

first_comes : (h : History) (rest : List Write) (w : Write) (more : List Write) → AreApart h rest
    → FitsIn h rest (w ∷ more) → may_come h rest w.number ≡ true
first_comes h rest w more a f =
    and_from _ _ (any_in (has w.number) w rest (f.within w (inl refl)) (eq-eqb w.number w.number refl))
    (not_from_false (waits_for_one h rest w.number) (first_is_free h rest w more a f))

-- a write isn't among those that may follow it
other : (h : History) (w x : Write) (rest : List Write) → IsIn x (after h w.number rest) → x ≡ w → ⊥
other h w x rest among same =
    both_ways (has w.number x) (not-true (has w.number x) (and_parts (not (has w.number x)) (not (is_before h x.number w.number)) (of_filter (may_follow h w.number) x rest among).1).0) (eq-eqb x.number w.number (ap (λ z. z.number) same))

-- one that is left after the first may follow it
later_follows : (h : History) (rest : List Write) (w : Write) (more : List Write) (x : Write) → AreApart h rest
    → FitsIn h rest (w ∷ more) → IsIn x more → IsIn x (after h w.number rest)
later_follows h rest w more x a f among =
    let there = f.within x (inr among) in
    let apart : (x.number ≡ w.number → ⊥) = λ same. f.in_order.1 (subst (λ y. IsIn y more) (a.unique x w there (f.within w (inl refl)) same) among) in
    in_filter (may_follow h w.number) x rest there
    (and_from _ _ (not_from_false (has w.number x) (ne_eqb x.number w.number apart)) (not_from_false (is_before h x.number w.number) (f.in_order.0 x among)))

-- a write that is left is the first or a later one
but_first : (w x : Write) (more : List Write) → IsIn x (w ∷ more) → (x ≡ w → ⊥) → IsIn x more
but_first w x more (inl same) other_one = absurd (other_one same)
but_first w x more (inr later) other_one = later

pub rest_fits : (h : History) (rest : List Write) (w : Write) (more : List Write) → AreApart h rest
    → FitsIn h rest (w ∷ more) → FitsIn h (after h w.number rest) more
rest_fits h rest w more a f = record {
  within = λ x among. later_follows h rest w more x a f among;
  safe = λ x among safe. but_first w x more (f.safe x (of_filter (may_follow h w.number) x rest among).0 safe) (other h w x rest among);
  closed = λ m x among kept along. but_first w m more (f.closed m x (of_filter (may_follow h w.number) m rest among).0 (inr kept) along) (other h w m rest among);
  in_order = f.in_order.2;
}

pub fits_chosen : (h : History) (rest order : List Write) → AreApart h rest → FitsIn h rest order
    → chosen h rest (numbers order) ≡ order
fits_chosen h rest [] a f = grind (arith, none_left)
fits_chosen h rest (w ∷ more) a f =
    rw (first_comes h rest w more a f, named_is h w rest a (f.within w (inl refl)))
    (ap (λ xs. w ∷ xs) (fits_chosen h (after h w.number rest) more (apart_filter h (may_follow h w.number) rest a) (rest_fits h rest w more a f)))
