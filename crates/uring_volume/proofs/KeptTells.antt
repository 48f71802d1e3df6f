-- What the writes that are kept tell of the history.
use Rattle.std.proofs.Common.{◌≡◌, ℕ, ◌==◌, Bool, true, false, ◌||◌, List, [], ◌∷◌, map, max, refl, sym, subst, ap, ◌∙◌, inl, inr, arith}
use Rattle.std.specs.Prelude.{IfSome, IfNone, Option, Some, None}
use Rattle.std.specs.Option.{is_some}
use Rattle.uring_volume.proofs.Common.{IsFoldable, eq-eqb, can_fold, has_safe, is_in_way, named, History, IsIn, SyncEnded, SyncFailed, SyncIssued, Write, WriteEnded, WriteFailed, WriteIssued, both_ways, eqb-true, false_from_ne_true, goes_along, is_before, is_done, is_one_of, is_safe, issued, list_any, ne_eqb, or_right, running_syncs, writes, ◌&&◌, cases_Bool}
use Rattle.uring_volume.specs.Images.{end_of, length_over}
use Rattle.uring_volume.specs.Volume.{is_known}
use Rattle.uring_volume.specs.declared.kept.Kept.{Kept}
use Rattle.uring_volume.specs.declared.kept.Running.{Running}
use Rattle.uring_volume.specs.Past.{IsPast, Past, can_be_folded, can_be_let_go, had_ended, stands_in_way, stands_over, was_done}
use Rattle.uring_volume.specs.Folds.{IsUnderSafe, can_let_go, lies_over}
use Rattle.uring_volume.proofs.Chosen.{in_issued, of_issued, one_number}
use Rattle.uring_volume.proofs.Fitting.{not_before}
use Rattle.uring_volume.proofs.HowItStands.{not_along}
use Rattle.uring_volume.proofs.Puts.{any_is, is_any}
use Rattle.uring_volume.proofs.Foldable.{foldable_by, under_by}
use Rattle.uring_volume.proofs.ShownLength.{one_named}
use Rattle.uring_volume.proofs.KeptLists.{any_filter, any_map, any_same, in_map, none_filtered, of_map}

pub kept_issued : (p : Past) (k : Kept) → IsPast p → IsIn k p.kept → IsIn k.piece (issued p.history)
kept_issued p k is among = subst (λ ws. IsIn k.piece ws) is.pieces (in_map (λ (x : Kept). x.piece) k p.kept among)

pub safe_kept : (p : Past) (n : ℕ) → IsPast p
    → has_safe p.history (named n (issued p.history)) ≡ list_any (λ k. k.piece.number == n && k.safe_yet) p.kept
safe_kept p n is =
    ap (λ ws. has_safe p.history (named n ws)) (sym is.pieces)
    ∙ any_filter (λ w. is_safe p.history w) (λ w. w.number == n) (map (λ k. k.piece) p.kept)
    ∙ any_map (λ k. k.piece) (λ w. w.number == n && is_safe p.history w) p.kept
    ∙ any_same (λ k. k.piece.number == n && is_safe p.history k.piece) (λ k. k.piece.number == n && k.safe_yet) p.kept (λ k among. ap (λ b. k.piece.number == n && b) (is.stands k among).safe)

pub can_fold_kept : (p : Past) (k : Kept) → IsPast p → IsIn k p.kept
    → can_fold p.history k.piece ≡ can_be_folded p.kept k
can_fold_kept p k is among =
    let here = is.stands k among in
    let ways : list_any (λ m. is_in_way p.history k.piece m) (issued p.history) ≡ list_any (λ m. stands_in_way k m) p.kept =
    ap (λ ws. list_any (λ m. is_in_way p.history k.piece m) ws) (sym is.pieces)
    ∙ any_map (λ m. m.piece) (λ m. is_in_way p.history k.piece m) p.kept
    ∙ any_same (λ m. is_in_way p.history k.piece m.piece) (λ m. stands_in_way k m) p.kept (λ m there.
    let a = (is.stands m there).along k.piece (of_issued p.history k.piece (kept_issued p k is among)) in
    let b = here.before m.piece (of_issued p.history m.piece (kept_issued p m is there)) in
    let sm = (is.stands m there).safe in
    grind (arith, a, b, sm))
    in
    let s = here.safe in
    grind (arith, ways, s)

pub none_fold_kept : (p : Past) → IsPast p → list_any (λ k. can_be_folded p.kept k) p.kept ≡ false
    → list_any (λ w. can_fold p.history w) (issued p.history) ≡ false
none_fold_kept p is none =
    ap (λ ws. list_any (λ w. can_fold p.history w) ws) (sym is.pieces)
    ∙ any_map (λ k. k.piece) (λ w. can_fold p.history w) p.kept
    ∙ any_same (λ k. can_fold p.history k.piece) (λ k. can_be_folded p.kept k) p.kept (λ k among. can_fold_kept p k is among)
    ∙ none

pub can_let_go_kept : (p : Past) (k : Kept) → IsPast p → IsIn k p.kept
    → can_let_go p.history k.piece ≡ can_be_let_go p.kept k
can_let_go_kept p k is among =
    let here = is.stands k among in
    let over : list_any (λ m. lies_over p.history k.piece m) (issued p.history) ≡ list_any (λ m. stands_over k m) p.kept =
    ap (λ ws. list_any (λ m. lies_over p.history k.piece m) ws) (sym is.pieces)
    ∙ any_map (λ m. m.piece) (λ m. lies_over p.history k.piece m) p.kept
    ∙ any_same (λ m. lies_over p.history k.piece m.piece) (λ m. stands_over k m) p.kept (λ m there.
    let b = here.before m.piece (of_issued p.history m.piece (kept_issued p m is there)) in
    let sm = (is.stands m there).safe in
    grind (arith, b, sm))
    in
    let s = here.safe in
    grind (arith, over, s)

pub none_let_go_kept : (p : Past) → IsPast p → list_any (λ k. can_be_let_go p.kept k) p.kept ≡ false
    → list_any (λ w. can_let_go p.history w) (issued p.history) ≡ false
none_let_go_kept p is none =
    ap (λ ws. list_any (λ w. can_let_go p.history w) ws) (sym is.pieces)
    ∙ any_map (λ k. k.piece) (λ w. can_let_go p.history w) p.kept
    ∙ any_same (λ k. can_let_go p.history k.piece) (λ k. can_be_let_go p.kept k) p.kept (λ k among. can_let_go_kept p k is among)
    ∙ none

pub under_kept : (p : Past) (k : Kept) → IsPast p → IsIn k p.kept → can_be_let_go p.kept k ≡ true
    → IsUnderSafe p.history k.piece
under_kept p k is among can = under_by p.history k.piece (kept_issued p k is among) (can_let_go_kept p k is among ∙ can)

is_there : (s : Running) (n : ℕ) (ss : List Running) → IsIn s ss → s.number ≡ n → is_one_of n (map (λ t. t.number) ss) ≡ true
is_there s n [] among named = absurd among
is_there s n (t ∷ ss) (inl same) named = grind (arith, (ap (λ (x : Running). x.number) same), eq-eqb)
is_there s n (t ∷ ss) (inr more) named = grind (arith, (is_there s n ss more named))

pub runs_there : (p : Past) (s : Running) (n : ℕ) → IsPast p → IsIn s p.syncs → s.number ≡ n
    → is_one_of n (running_syncs p.history) ≡ true
runs_there p s n is among named = subst (λ ns. is_one_of n ns ≡ true) is.syncs_run (is_there s n p.syncs among named)

pub over_kept : (p : Past) (k : Kept) → IsPast p → IsIn k p.kept → can_be_folded p.kept k ≡ true
    → IsFoldable p.history k.piece
over_kept p k is among can = foldable_by p.history k.piece is.lawful (kept_issued p k is among) (can_fold_kept p k is among ∙ can)

pub no_number : (h : History) (m n : ℕ) → ((w : Write) → IsIn w (writes h) → w.number ≡ n → ⊥) → is_before h m n ≡ false
no_number [] m n none = refl
no_number (WriteIssued w ∷ earlier) m n none =
    grind (arith, (no_number earlier m n (λ v among. none v (inr among))), (ne_eqb w.number n (none w (inl refl))))
no_number (WriteEnded k ∷ earlier) m n none = no_number earlier m n none
no_number (WriteFailed k ∷ earlier) m n none = no_number earlier m n none
no_number (SyncIssued s range ∷ earlier) m n none = no_number earlier m n none
no_number (SyncEnded s ∷ earlier) m n none = no_number earlier m n none
no_number (SyncFailed s ∷ earlier) m n none = no_number earlier m n none

-- a write that was issued is kept
pub kept_of : (p : Past) (w : Write) → IsPast p → IsIn w (issued p.history) → (k : Kept) × IsIn k p.kept × (w ≡ k.piece)
kept_of p w is among = of_map (λ (x : Kept). x.piece) w p.kept (subst (λ ws. IsIn w ws) (sym is.pieces) among)

-- no write of a number is kept, so that none is before it
unkept : (p : Past) (m n : ℕ) → IsPast p → list_any (λ x. x.piece.number == n) p.kept ≡ false
    → is_before p.history m n ≡ false
unkept p m n is none =
    no_number p.history m n (λ w issued_w same.
    let found = kept_of p w is (in_issued p.history w issued_w) in
    both_ways (list_any (λ (x : Kept). x.piece.number == n) p.kept) none (is_any (λ (x : Kept). x.piece.number == n) found.0 p.kept found.1 (eq-eqb found.0.piece.number n (sym (ap (λ (v : Write). v.number) found.2) ∙ same))))

-- what a write that is kept tells of a write by its number
by_number : (p : Past) (n : ℕ) (tells stands : ℕ → Bool) → IsPast p
    → ((w : Write) → IsIn w (writes p.history) → tells w.number ≡ stands w.number)
    → (list_any (λ x. x.piece.number == n) p.kept ≡ false → tells n ≡ false)
    → tells n ≡ (list_any (λ x. x.piece.number == n) p.kept && stands n)
by_number p n tells stands is each none_tells = elim (cases_Bool (list_any (λ (x : Kept). x.piece.number == n) p.kept)) [
  | inl there ↦
      let found = any_is (λ (x : Kept). x.piece.number == n) p.kept there in
      let named : found.0.piece.number ≡ n = eqb-true found.0.piece.number n found.2 in
      let b = each found.0.piece (of_issued p.history found.0.piece (kept_issued p found.0 is found.1)) in
      subst (λ m. tells m ≡ stands m) named b
      ∙ sym (ap (λ y. y && stands n) there)
  | inr none ↦ none_tells none ∙ sym (ap (λ y. y && stands n) none)
]

pub before_kept : (p : Past) (k : Kept) (n : ℕ) → IsPast p → IsIn k p.kept
    → is_before p.history k.piece.number n ≡ (list_any (λ x. x.piece.number == n) p.kept && was_done k n)
before_kept p k n is among =
    by_number p n (λ m. is_before p.history k.piece.number m) (λ m. was_done k m) is (is.stands k among).before (unkept p k.piece.number n is)

pub along_kept : (p : Past) (k : Kept) (n : ℕ) → IsPast p → IsIn k p.kept
    → goes_along p.history k.piece.number n ≡ (list_any (λ x. x.piece.number == n) p.kept && had_ended k n)
along_kept p k n is among =
    by_number p n (λ m. goes_along p.history k.piece.number m) (λ m. had_ended k m) is (is.stands k among).along
    (λ none. not_along p.history k.piece.number n (unkept p k.piece.number n is none))

pub before_unkept : (p : Past) (m n : ℕ) → IsPast p → list_any (λ x. x.piece.number == m) p.kept ≡ false
    → is_before p.history m n ≡ false
before_unkept p m n is none =
    not_before p.history m n (false_from_ne_true (is_done p.history m) (λ done.
    let found = is.known m done in
    let here = kept_of p found.0 is (in_issued p.history found.0 found.1) in
    both_ways (list_any (λ (x : Kept). x.piece.number == m) p.kept) none (is_any (λ (x : Kept). x.piece.number == m) here.0 p.kept here.1 (eq-eqb here.0.piece.number m (sym (ap (λ (v : Write). v.number) here.2) ∙ found.2)))))

pub along_unkept : (p : Past) (m n : ℕ) → IsPast p → list_any (λ x. x.piece.number == m) p.kept ≡ false
    → goes_along p.history m n ≡ false
along_unkept p m n is none = not_along p.history m n (before_unkept p m n is none)

pub safe_by_number : (p : Past) (k : Kept) (w : Write) → IsPast p → IsIn k p.kept → IsIn w (issued p.history)
    → k.piece.number ≡ w.number → k.safe_yet ≡ is_safe p.history w
safe_by_number p k w is among issued_w named =
    let same : k.piece ≡ w = one_number p.history k.piece w is.lawful (of_issued p.history k.piece (kept_issued p k is among)) (of_issued p.history w issued_w) named in
    sym (is.stands k among).safe ∙ ap (λ v. is_safe p.history v) same

pub safe_is_kept : (p : Past) (w : Write) → IsPast p → IsIn w (issued p.history)
    → list_any (λ x. x.piece.number == w.number) p.kept ≡ false → ⊥
safe_is_kept p w is among none =
    let here = kept_of p w is among in
    both_ways (list_any (λ (x : Kept). x.piece.number == w.number) p.kept) none (is_any (λ (x : Kept). x.piece.number == w.number) here.0 p.kept here.1 (eq-eqb here.0.piece.number w.number (sym (ap (λ (v : Write). v.number) here.2))))

-- the writes of a number are those that are kept of it
pub known_kept : (p : Past) (n : ℕ) → IsPast p
    → list_any (λ w. w.number == n) (issued p.history) ≡ list_any (λ k. k.piece.number == n) p.kept
known_kept p n is = ap (λ ws. list_any (λ w. w.number == n) ws) (sym is.pieces) ∙ any_map (λ k. k.piece) (λ w. w.number == n) p.kept

pub sync_known : (p : Past) (r : Option Running) (n : ℕ) → IsPast p → list_any (λ k. k.piece.number == n) p.kept ≡ false
    → IfSome r (λ s. IsIn s p.syncs × (s.number ≡ n)) → IfNone r (is_one_of n (map (λ s. s.number) p.syncs) ≡ false)
    → is_some r ≡ is_known n p.history
sync_known p (Some s) n is none found out = sym (or_right (list_any (λ w. w.number == n) (issued p.history)) (is_one_of n (running_syncs p.history)) (runs_there p s n is found.0 found.1))
sync_known p None n is none found out =
    sym (ap (λ b. b || is_one_of n (running_syncs p.history)) (known_kept p n is ∙ none) ∙ ap (λ ns. is_one_of n ns) (sym is.syncs_run) ∙ out)

-- where it ends
pub end_kept : (p : Past) (k : Kept) (n : ℕ) → IsPast p → IsIn k p.kept → k.piece.number ≡ n
    → length_over 0 (named n (issued p.history)) ≡ end_of k.piece
end_kept p k n is among same =
    ap (λ m. length_over 0 (named m (issued p.history))) (sym same)
    ∙ ap (λ ws. length_over 0 ws) (one_named p.history k.piece is.lawful (of_issued p.history k.piece (kept_issued p k is among)))
    ∙ (let alone : max 0 (end_of k.piece) ≡ end_of k.piece = omega arith in alone)

pub end_unkept : (p : Past) (n : ℕ) → IsPast p → list_any (λ k. k.piece.number == n) p.kept ≡ false
    → length_over 0 (named n (issued p.history)) ≡ 0
end_unkept p n is none = ap (λ ws. length_over 0 ws) (none_filtered (λ w. w.number == n) (issued p.history) (known_kept p n is ∙ none))
