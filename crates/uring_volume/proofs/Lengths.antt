-- The lengths that may be left: each is that of the fewest writes, or of the fewest with one more.
use Rattle.std.proofs.Common.{◌≡◌, ◌==◌, ◌≤◌, ℕ, max, Bool, true, false, ◌||◌, List, [], ◌∷◌, ◌⊎◌, refl, subst, inl, inr, arith}
use Rattle.uring_volume.proofs.Common.{History, IsEachOnce, IsIn, IsInOrder, IsLawful, Write, WriteEnded, WriteFailed, WriteIssued, and_from, both_ways, end_of, eqb-true, fewest, fewest_with, filter, goes_along, goes_with, is_before, is_done, is_needed, is_safe, issued, length_over, lengths_by, lengths_of, nat_eq, or_cases, or_left, or_right, put_by}
use Rattle.uring_volume.proofs.Units.{in_filter, of_filter, filter_in_order}
use Rattle.uring_volume.proofs.ReadBack.{len_grows, end_within}
use Rattle.uring_volume.proofs.Rest.{length_below}
use Rattle.uring_volume.proofs.Fitting.{FitsIn, AreApart, along_before, along_ended}
use Rattle.uring_volume.proofs.Chosen.{issued_apart}
use Rattle.uring_volume.proofs.Puts.{any_is, is_any, in_put_old, in_put_new, of_put, put_once, numbers_tell}

-- What is before what.

-- a write that is before another is done
pub before_done : (h : History) (m n : ℕ) → is_before h m n ≡ true → is_done h m ≡ true
before_done [] m n is = absurd (both_ways false refl is)
before_done (WriteIssued w ∷ earlier) m n is = grind (arith, (before_done earlier m n))
before_done (WriteEnded k ∷ earlier) m n is = grind (arith, (before_done earlier m n))
before_done (WriteFailed k ∷ earlier) m n is = grind (arith, (before_done earlier m n))
before_done (e ∷ earlier) m n is = before_done earlier m n is

-- what is before a write that is before another is before that
pub before_before : (h : History) (a b c : ℕ) → IsLawful h → is_before h a b ≡ true
    → is_before h b c ≡ true → is_before h a c ≡ true
before_before [] a b c l ab bc = bc
before_before (WriteIssued w ∷ earlier) a b c l ab bc =
    grind (arith, or_cases, before_done, eqb-true, (before_before earlier a b c l.2))
before_before (WriteEnded k ∷ earlier) a b c l ab bc = before_before earlier a b c l.1 ab bc
before_before (WriteFailed k ∷ earlier) a b c l ab bc = before_before earlier a b c l.1 ab bc
before_before (e ∷ earlier) a b c l ab bc = before_before earlier a b c l ab bc

-- and what goes along with a write that is before another goes along with that
pub along_through : (h : History) (a b c : ℕ) → IsLawful h → goes_along h a b ≡ true
    → is_before h b c ≡ true → goes_along h a c ≡ true
along_through [] a b c l ab bc = bc
along_through (WriteIssued w ∷ earlier) a b c l ab bc =
    grind (arith, or_cases, before_done, along_ended, eqb-true, (along_through earlier a b c l.2))
along_through (WriteEnded k ∷ earlier) a b c l ab bc = along_through earlier a b c l.1 ab bc
along_through (WriteFailed k ∷ earlier) a b c l ab bc = along_through earlier a b c l.1 ab bc
along_through (e ∷ earlier) a b c l ab bc = along_through earlier a b c l ab bc

along_along : (h : History) (a b c : ℕ) → IsLawful h → goes_along h a b ≡ true
    → goes_along h b c ≡ true → goes_along h a c ≡ true
along_along h a b c l ab bc = along_through h a b c l ab (along_before h b c bc)

-- The fewest that may be left.

goes_back : (h : History) (n m x : ℕ) → IsLawful h → goes_along h m x ≡ true
    → (x == n || goes_along h x n) ≡ true → (m == n || goes_along h m n) ≡ true
goes_back h n m x l along goes = grind (arith, eqb-true, along_along)

needed_back : (h : History) (all : List Write) (m x : Write) → IsLawful h
    → goes_along h m.number x.number ≡ true → is_needed h all x ≡ true
    → is_needed h all m ≡ true
needed_back h all m x l before needed = grind (arith, any_is, is_any, goes_back)

safe_needed : (h : History) (all : List Write) (w : Write) → IsIn w all → is_safe h w ≡ true
    → is_needed h all w ≡ true
safe_needed h all w among safe = grind (arith, is_any, and_from)

-- a test of the writes that may be left
record IsClosed (h : History) (all : List Write) (p : Write → Bool) : Type 0 where
  back : (m x : Write) → goes_along h m.number x.number ≡ true → p x ≡ true → p m ≡ true
  safe : (w : Write) → IsIn w all → is_safe h w ≡ true → p w ≡ true

closed_fits : (h : History) (all : List Write) (p : Write → Bool) → IsClosed h all p
    → IsInOrder h all → FitsIn h all (filter p all)
closed_fits h all p closed o = grind (arith, of_filter, in_filter, filter_in_order)

pub fewest_fits : (h : History) (all : List Write) → IsLawful h → IsInOrder h all
    → FitsIn h all (fewest h all)
fewest_fits h all l o =
    closed_fits h all (λ m. is_needed h all m) (record {
      back = λ m x before is. needed_back h all m x l before is;
      safe = λ w among safe. safe_needed h all w among safe;
    }) o

pub fewest_with_fits : (h : History) (all : List Write) (n : ℕ) → IsLawful h → IsInOrder h all
    → FitsIn h all (fewest_with h all n)
fewest_with_fits h all n l o =
    closed_fits h all (λ m. goes_with h n m || is_needed h all m) (record {
      back = grind (arith, or_left, goes_back, needed_back);
      safe = λ w among safe. or_right (goes_with h n w) (is_needed h all w) (safe_needed h all w among safe);
    }) o

-- what goes with a write that is left is left
goes_left : (h : History) (all order : List Write) (w m : Write) → AreApart h all
    → FitsIn h all order → IsIn w order → IsIn m all → goes_with h w.number m ≡ true
    → IsIn m order
goes_left h all order w m apart fits kept among goes = grind arith

needed_left : (h : History) (all order : List Write) (m : Write) → AreApart h all
    → FitsIn h all order → IsIn m all → is_needed h all m ≡ true → IsIn m order
needed_left h all order m apart fits among needed = grind (arith, any_is)

-- Their lengths.

no_longer_of : (len : ℕ) (some more : List Write) → ((w : Write) → IsIn w some → IsIn w more)
    → length_over len some ≤ length_over len more
no_longer_of len some more within = grind (arith, length_below, len_grows, end_within)

-- a length is the first one, or the end of a write
longest : (len : ℕ) (order : List Write)
    → (length_over len order ≡ len) ⊎ ((w : Write) × IsIn w order × (end_of w ≡ length_over len order))
longest len [] = inl refl
longest len (w ∷ more) = grind (arith, (longest (max len (end_of w)) more), max)

by_old : (h : History) (all : List Write) (len : ℕ) (ws : List Write) (found : List ℕ) (n : ℕ)
    → IsIn n found → IsIn n (lengths_by h all len ws found)
by_old h all len [] found n among = among
by_old h all len (w ∷ more) found n among = grind (arith, (by_old h all len more), in_put_old)

by_new : (h : History) (all : List Write) (len : ℕ) (ws : List Write) (found : List ℕ) (w : Write)
    → IsIn w ws → IsIn (length_over len (fewest_with h all w.number)) (lengths_by h all len ws found)
by_new h all len [] found w among = absurd among
by_new h all len (v ∷ more) found w (inl same) = grind (arith, by_old, in_put_new)
by_new h all len (v ∷ more) found w (inr later) =
    by_new h all len more (put_by nat_eq found (length_over len (fewest_with h all v.number))) w later

of_by : (h : History) (all : List Write) (len : ℕ) (ws : List Write) (found : List ℕ) (n : ℕ)
    → IsIn n (lengths_by h all len ws found)
    → IsIn n found ⊎ ((w : Write) × (n ≡ length_over len (fewest_with h all w.number)))
of_by h all len [] found n among = inl among
of_by h all len (w ∷ more) found n among =
    elim (of_by h all len more (put_by nat_eq found (length_over len (fewest_with h all w.number))) n among) [
      | inl early ↦ elim (of_put nat_eq n (length_over len (fewest_with h all w.number)) found early) [
        | inl old ↦ inl old
        | inr is ↦ inr (w, is)
      ]
      | inr later ↦ inr later
    ]

by_once : (h : History) (all : List Write) (len : ℕ) (ws : List Write) (found : List ℕ)
    → IsEachOnce found → IsEachOnce (lengths_by h all len ws found)
by_once h all len [] found once = once
by_once h all len (w ∷ more) found once = grind (arith, (by_once h all len more), put_once, numbers_tell)

pub lengths_once : (h : History) (len : ℕ) → IsEachOnce (lengths_of h len)
lengths_once h len = grind (arith, by_once)

-- a length that some writes make, if they may be left
pub record IsLength (h : History) (len n : ℕ) : Type 0 where
  pub order : List Write
  pub fits : FitsIn h (issued h) order
  pub is : n ≡ length_over len order

pub of_lengths : (h : History) (len n : ℕ) → IsLawful h → IsIn n (lengths_of h len) → IsLength h len n
of_lengths h len n l among =
    elim (of_by h (issued h) len (issued h) (length_over len (fewest h (issued h)) ∷ []) n among) [
      | inl first ↦ elim first as (λ _. IsLength h len n) [
        | inl same ↦ record { order = fewest h (issued h); fits = fewest_fits h (issued h) l (issued_apart h l).in_order; is = same }
        | inr none ↦ absurd none
      ]
      | inr found ↦ record { order = fewest_with h (issued h) found.0.number; fits = fewest_with_fits h (issued h) found.0.number l (issued_apart h l).in_order; is = found.1 }
    ]

pub in_lengths : (h : History) (len : ℕ) (order : List Write) → IsLawful h
    → FitsIn h (issued h) order → IsIn (length_over len order) (lengths_of h len)
in_lengths h len order l fits =
    elim (longest len order) [
      | inl same ↦ grind (arith, no_longer_of, of_filter, needed_left, issued_apart, len_grows, by_old)
      | inr found ↦
          let less : length_over len (fewest_with h (issued h) found.0.number) ≤ length_over len order =
          grind (arith, no_longer_of, of_filter, or_cases, goes_left, issued_apart, needed_left) in
          let itself : IsIn found.0 (fewest_with h (issued h) found.0.number) = grind (arith, in_filter, (fits.within found.0 found.1)) in
          let reaches : end_of found.0 ≤ length_over len (fewest_with h (issued h) found.0.number) = end_within len found.0 (fewest_with h (issued h) found.0.number) itself in
          let equal : length_over len (fewest_with h (issued h) found.0.number) ≡ length_over len order = omega (arith, found.2) in
          subst (λ n. IsIn n (lengths_of h len)) equal
          (by_new h (issued h) len (issued h) (length_over len (fewest h (issued h)) ∷ []) found.0 (fits.within found.0 found.1))
    ]
