-- How long a file is that a read shows: as long as before if a write is folded or let go.
use Rattle.std.proofs.Common.{◌≡◌, ◌==◌, ◌≤◌, ◌+◌, ℕ, Bool, max, true, false, cond, List, [], ◌∷◌, ◌++◌, length, refl, sym, subst, ap, ◌∙◌, inl, inr, arith}
use Rattle.uring_volume.proofs.Common.{History, IsFoldable, IsIn, IsLawful, IsOver, SyncEnded, SyncFailed, SyncIssued, Write, WriteEnded, WriteFailed, WriteIssued, append-nil, both_ways, cases_Bool, cond-false, cond-true, end_of, ended, eq-eqb, eqb-true, has_ended, is_before, is_done, issued, length_over, named, ne_eqb, without_write, writes}
use Rattle.std.proofs.lemmas.List.Elements.{filter-append}
use Rattle.uring_volume.proofs.Fitting.{ended_done, safe_ended}
use Rattle.uring_volume.proofs.Without.{same_later, but_later}
use Rattle.uring_volume.proofs.Chosen.{in_issued, issued_apart}
use Rattle.uring_volume.specs.Folds.{IsUnderSafe}

-- some writes, and then others
pub over_both : (len : ℕ) (ws vs : List Write) → length_over len (ws ++ vs) ≡ length_over (length_over len ws) vs
over_both len [] vs = refl
over_both len (w ∷ ws) vs = over_both (max len (end_of w)) ws vs

-- where some writes end, whatever lies before
pub over_from : (len : ℕ) (ws : List Write) → length_over len ws ≡ max len (length_over 0 ws)
over_from len [] = omega arith
over_from len (w ∷ ws) =
    let e : ℕ = end_of w in
    let above = over_from (max len e) ws in
    let alone = over_from (max 0 e) ws in
    omega (arith, above, alone)

both_from : (ws vs : List Write) → length_over 0 (ws ++ vs) ≡ max (length_over 0 ws) (length_over 0 vs)
both_from ws vs = over_both 0 ws vs ∙ over_from (length_over 0 ws) vs

-- The writes of a number.

pub none_named : (n : ℕ) (h : History) → ((v : Write) → IsIn v (writes h) → v.number ≡ n → ⊥) → named n (issued h) ≡ []
none_named n [] none = refl
none_named n (WriteIssued w ∷ earlier) none =
    grind (arith, filter-append, (none_named n earlier (λ v among. none v (inr among))), (ne_eqb w.number n (none w (inl refl))))
none_named n (WriteEnded k ∷ earlier) none = none_named n earlier none
none_named n (WriteFailed k ∷ earlier) none = none_named n earlier none
none_named n (SyncIssued s range ∷ earlier) none = none_named n earlier none
none_named n (SyncEnded s ∷ earlier) none = none_named n earlier none
none_named n (SyncFailed s ∷ earlier) none = none_named n earlier none

pub one_named : (h : History) (w : Write) → IsLawful h → IsIn w (writes h) → named w.number (issued h) ≡ w ∷ []
one_named [] w l among = absurd among
one_named (WriteIssued v ∷ earlier) w l (inl same) =
    subst (λ x. named x.number (issued earlier ++ v ∷ []) ≡ x ∷ []) (sym same)
    (grind (arith, filter-append, (none_named v.number earlier l.0), eq-eqb))
one_named (WriteIssued v ∷ earlier) w l (inr among) =
    grind (arith, filter-append, (one_named earlier w l.2 among), (ne_eqb v.number w.number (λ e. l.0 w among (sym e))), append-nil)
one_named (WriteEnded k ∷ earlier) w l among = one_named earlier w l.1 among
one_named (WriteFailed k ∷ earlier) w l among = one_named earlier w l.1 among
one_named (SyncIssued s range ∷ earlier) w l among = one_named earlier w l among
one_named (SyncEnded s ∷ earlier) w l among = one_named earlier w l among
one_named (SyncFailed s ∷ earlier) w l among = one_named earlier w l among

other_named : (n m : ℕ) (h : History) → (m ≡ n → ⊥) → named m (issued (without_write n h)) ≡ named m (issued h)
other_named n m [] other = refl
other_named n m (WriteIssued w ∷ earlier) other = grind (arith, filter-append, append-nil, (other_named n m earlier other), eqb-true)
other_named n m (WriteEnded k ∷ earlier) other = grind (arith, (other_named n m earlier other))
other_named n m (WriteFailed k ∷ earlier) other = grind (arith, (other_named n m earlier other))
other_named n m (SyncIssued s range ∷ earlier) other = other_named n m earlier other
other_named n m (SyncEnded s ∷ earlier) other = other_named n m earlier other
other_named n m (SyncFailed s ∷ earlier) other = other_named n m earlier other

-- A write is left out.

-- one that isn't there
without_none : (n : ℕ) (h : History) → ((v : Write) → IsIn v (writes h) → v.number ≡ n → ⊥) → is_done h n ≡ false → without_write n h ≡ h
without_none n [] none open_yet = refl
without_none n (WriteIssued w ∷ earlier) none open_yet =
    grind (arith, (without_none n earlier (λ v among. none v (inr among)) open_yet), (ne_eqb w.number n (none w (inl refl))))
without_none n (WriteEnded k ∷ earlier) none open_yet = grind (arith, (without_none n earlier none))
without_none n (WriteFailed k ∷ earlier) none open_yet = grind (arith, (without_none n earlier none))
without_none n (SyncIssued s range ∷ earlier) none open_yet = ap (λ g. SyncIssued s range ∷ g) (without_none n earlier none open_yet)
without_none n (SyncEnded s ∷ earlier) none open_yet = ap (λ g. SyncEnded s ∷ g) (without_none n earlier none open_yet)
without_none n (SyncFailed s ∷ earlier) none open_yet = ap (λ g. SyncFailed s ∷ g) (without_none n earlier none open_yet)

-- what has ended shows as much as the others with it
shown_with : (h : History) (w : Write) → IsLawful h → IsIn w (writes h)
    → length_over 0 (ended h) ≡ max (cond (has_ended h w.number) (end_of w) 0) (length_over 0 (ended (without_write w.number h)))
shown_with [] w l among = absurd among
shown_with (WriteIssued v ∷ earlier) w l (inl same) =
    subst (λ x. length_over 0 (ended earlier) ≡ max (cond (has_ended earlier x.number) (end_of x) 0) (length_over 0 (ended (without_write x.number (WriteIssued v ∷ earlier))))) (sym same)
    (grind (arith, (without_none v.number earlier l.0 l.1), l.1, ended_done, eq-eqb))
shown_with (WriteIssued v ∷ earlier) w l (inr among) =
    grind (arith, (shown_with earlier w l.2 among), (ne_eqb v.number w.number (λ e. l.0 w among (sym e))))
shown_with (WriteEnded k ∷ earlier) w l among = elim (cases_Bool (k == w.number)) [
  | inl is ↦
      let all : named k (issued earlier) ≡ w ∷ [] = ap (λ n. named n (issued earlier)) (eqb-true k w.number is) ∙ one_named earlier w l.1 among in
      grind (arith, (both_from (ended earlier) (named k (issued earlier))), all, (shown_with earlier w l.1 among), is)
  | inr other ↦
      let same = other_named w.number k earlier (λ e. both_ways (k == w.number) other (eq-eqb k w.number e)) in
      grind (arith, (both_from (ended earlier) (named k (issued earlier))), (both_from (ended (without_write w.number earlier)) (named k (issued (without_write w.number earlier)))), same, (shown_with earlier w l.1 among), other)
]
shown_with (WriteFailed k ∷ earlier) w l among = grind (arith, (shown_with earlier w l.1 among))
shown_with (SyncIssued s range ∷ earlier) w l among = shown_with earlier w l among
shown_with (SyncEnded s ∷ earlier) w l among = shown_with earlier w l among
shown_with (SyncFailed s ∷ earlier) w l among = shown_with earlier w l among

-- what has ended lies within what is shown
shown_within : (h : History) (w : Write) → IsLawful h → IsIn w (writes h) → has_ended h w.number ≡ true
    → end_of w ≤ length_over 0 (ended h)
shown_within h w l among is = omega (arith, shown_with h w l among, cond-true (has_ended h w.number) (end_of w) 0 is)

pub shown_folded : (first over : List ℕ) (h : History) (w : Write) → IsLawful h → IsFoldable h w → IsOver first w over
    → length_over (length over) (ended (without_write w.number h)) ≡ length_over (length first) (ended h)
shown_folded first over h w l f is =
    omega (
      arith,
      is.len,
      shown_with h w l f.issued,
      cond-true (has_ended h w.number) (end_of w) 0 (safe_ended h w f.safe),
      over_from (length over) (ended (without_write w.number h)),
      over_from (length first) (ended h),
    )

at_most : (b : Bool) (n : ℕ) → cond b n 0 ≤ n
at_most true n = omega arith
at_most false n = omega arith

-- a write ends no later than one that lies over it
end_under : (w over : Write) → over.off ≤ w.off → w.off + length w.bytes ≤ over.off + length over.bytes → end_of w ≤ end_of over
end_under w over from to = grind (arith, cond-true, cond-false)

pub shown_let_go : (first : List ℕ) (h : History) (w : Write) → IsLawful h → IsLawful (without_write w.number h) → IsUnderSafe h w
    → length_over (length first) (ended (without_write w.number h)) ≡ length_over (length first) (ended h)
shown_let_go first h w l less s =
    let other : s.over.number ≡ w.number → ⊥ = λ e. both_ways (is_before h w.number w.number) ((issued_apart h l).irreflexive w (in_issued h w s.issued)) (subst (λ n. is_before h w.number n ≡ true) e s.before) in
    let over_there : IsIn s.over (writes (without_write w.number h)) = (but_later [] h w l s.issued).into s.over s.over_issued other in
    let over_ended : has_ended (without_write w.number h) s.over.number ≡ true = (same_later w.number [] h).ended s.over.number other ∙ safe_ended h s.over s.safe in
    omega (
      arith,
      shown_with h w l s.issued,
      at_most (has_ended h w.number) (end_of w),
      end_under w s.over s.from s.to,
      shown_within (without_write w.number h) s.over less over_there over_ended,
      over_from (length first) (ended (without_write w.number h)),
      over_from (length first) (ended h),
    )
