-- How a write that is kept stands, and which syncs touch it, after each event.
use Rattle.std.proofs.Common.{◌≡◌, ℕ, ◌==◌, ◌<◌, ◌+◌, true, false, [], ◌∷◌, refl, sym, subst, inl, inr, arith}
use Rattle.std.specs.Prelude.{nat_le}
use Rattle.uring_volume.proofs.Common.{History, IsIn, SyncEnded, SyncFailed, SyncIssued, Write, WriteEnded, WriteFailed, WriteIssued, both_ways, eqb-false, eqb-true, false_from_ne_true, goes_along, has_ended, is_before, is_covered, is_done, is_given_up, is_reached, is_safe, le-leb, lt-ltb, ltb-true, ne_eqb, writes, cases_Bool}
use Rattle.uring_volume.specs.Volume.{IsNumbered}
use Rattle.uring_volume.specs.declared.event.SyncRange.{SyncRange}
use Rattle.uring_volume.specs.declared.kept.Kept.{Kept}
use Rattle.uring_volume.specs.declared.kept.Running.{Running}
use Rattle.uring_volume.specs.Past.{Stands, Touches, ended_at, given_up_by, settled}
use Rattle.uring_volume.proofs.Fitting.{along_before, along_ended, ended_done, not_before}

pub unissued : (h : History) (m n : ℕ) → ((w : Write) → IsIn w (writes h) → w.number < n)
    → is_before h m n ≡ false
unissued [] m n below = refl
unissued (WriteIssued w ∷ earlier) m n below =
    let less : w.number < n = below w (inl refl) in
    grind (arith, (unissued earlier m n (λ v among. below v (inr among))), ne_eqb)
unissued (e ∷ earlier) m n below = unissued earlier m n below

pub not_along : (h : History) (m n : ℕ) → is_before h m n ≡ false → goes_along h m n ≡ false
not_along h m n none = false_from_ne_true (goes_along h m n) (λ is. both_ways (is_before h m n) none (along_before h m n is))

pub not_ended : (h : History) (n : ℕ) → is_done h n ≡ false → has_ended h n ≡ false
not_ended h n out = false_from_ne_true (has_ended h n) (λ is. both_ways (is_done h n) out (ended_done h n is))

-- one that hasn't ended with success goes along with none
pub unended_along : (h : History) (m n : ℕ) → has_ended h m ≡ false → goes_along h m n ≡ false
unended_along h m n out = false_from_ne_true (goes_along h m n) (λ is. both_ways (has_ended h m) out (along_ended h m n is))

pub uncovered : (h : History) (s : ℕ) (w : Write) → has_ended h w.number ≡ false
    → (is_covered h s w ≡ false) × (is_reached h s w ≡ false)
uncovered [] s w out = (refl, refl)
uncovered (WriteEnded k ∷ earlier) s w out = uncovered earlier s w (grind arith)
uncovered (SyncIssued t range ∷ earlier) s w out = let more = uncovered earlier s w out in grind (arith, more)
uncovered (WriteFailed k ∷ earlier) s w out = uncovered earlier s w out
uncovered (WriteIssued v ∷ earlier) s w out = uncovered earlier s w out
uncovered (SyncEnded t ∷ earlier) s w out = uncovered earlier s w out
uncovered (SyncFailed t ∷ earlier) s w out = uncovered earlier s w out

pub unsettled : (h : History) (w : Write) → has_ended h w.number ≡ false
    → (is_safe h w ≡ false) × (is_given_up h w ≡ false)
unsettled [] w out = (refl, refl)
unsettled (WriteEnded k ∷ earlier) w out = unsettled earlier w (grind arith)
unsettled (SyncEnded t ∷ earlier) w out = let more = unsettled earlier w out in let un = uncovered earlier t w out in grind (arith, more, un)
unsettled (SyncFailed t ∷ earlier) w out = let more = unsettled earlier w out in let un = uncovered earlier t w out in grind (arith, more, un)
unsettled (WriteFailed k ∷ earlier) w out = unsettled earlier w out
unsettled (WriteIssued v ∷ earlier) w out = unsettled earlier w out
unsettled (SyncIssued t range ∷ earlier) w out = unsettled earlier w out

pub stands_issue : (h : History) (next : ℕ) (k : Kept) (w : Write) → Stands h next k
    → IsNumbered next h → w.number ≡ next → Stands (WriteIssued w ∷ h) (next + 1) k
stands_issue h next k w s numbered is = record {
  done = s.done;
  ended = s.ended;
  bound = let b = s.bound in omega arith;
  before = λ v among. elim among [
    | inl same ↦ let none = unissued h k.piece.number next numbered.issued in let b = s.bound in let e = s.done in grind (arith, none, same, is, lt-ltb, le-leb)
    | inr rest ↦ let less : v.number < next = numbered.issued v rest in let b = s.before v rest in grind (arith, b, ne_eqb)
  ];
  along = λ v among. elim among [
    | inl same ↦ let none = not_along h k.piece.number next (unissued h k.piece.number next numbered.issued) in let b = s.bound in let e = s.ended in grind (arith, none, same, is, lt-ltb, le-leb)
    | inr rest ↦ let less : v.number < next = numbered.issued v rest in let b = s.along v rest in grind (arith, b, ne_eqb)
  ];
  given_up = s.given_up;
  safe = s.safe;
}

pub stands_new : (h : History) (next : ℕ) (w : Write) → IsNumbered next h → w.number ≡ next
    → Stands (WriteIssued w ∷ h) (next + 1) (record { piece = w; end_next = 0; has_failed = false; failed_yet = false; safe_yet = false })
stands_new h next w numbered is =
    let undone : is_done h w.number ≡ false = false_from_ne_true (is_done h w.number) (λ e. let b : w.number < next = numbered.done w.number e in omega arith) in
    let out = not_ended h w.number undone in
    record {
      done = undone;
      ended = out;
      bound = omega arith;
      before = λ v among. grind (arith, undone, (not_before h w.number v.number undone));
      along = λ v among. grind (arith, out, (unended_along h w.number v.number out));
      given_up = (unsettled h w out).1;
      safe = (unsettled h w out).0;
    }

pub stands_sync : (h : History) (next s : ℕ) (range : SyncRange) (k : Kept) → Stands h next k
    → Stands (SyncIssued s range ∷ h) (next + 1) k
stands_sync h next s range k st = record {
  done = st.done;
  ended = st.ended;
  bound = let b = st.bound in omega arith;
  before = st.before;
  along = st.along;
  given_up = st.given_up;
  safe = st.safe;
}

-- a write that runs ends, with success or not
pub stands_end : (h : History) (next n : ℕ) (k : Kept) → Stands h next k → IsNumbered next h
    → is_done h n ≡ false → Stands (WriteEnded n ∷ h) next (ended_at n next false k)
stands_end h next n k st numbered runs = elim (cases_Bool (k.piece.number == n)) [
  | inl is ↦
      let named : k.piece.number ≡ n = eqb-true k.piece.number n is in
      let positive : 0 < next = numbered.some in
      let same : ended_at n next false k ≡ record k { end_next = next; has_failed = false } = grind (arith, is) in
      subst (λ x. Stands (WriteEnded n ∷ h) next x) (sym same) (record {
        done = grind (arith, named, lt-ltb);
        ended = grind (arith, named, lt-ltb);
        bound = omega arith;
        before = λ v among. let less : v.number < next = numbered.issued v among in let out = not_before h n v.number runs in grind (arith, named, out, nat_le, ltb-true);
        along = λ v among. let less : v.number < next = numbered.issued v among in let out = not_along h n v.number (not_before h n v.number runs) in grind (arith, named, out, nat_le, ltb-true);
        given_up = st.given_up;
        safe = st.safe;
      })
  | inr other ↦
      let apart = eqb-false k.piece.number n other in
      let same : ended_at n next false k ≡ k = grind (arith, other) in
      subst (λ x. Stands (WriteEnded n ∷ h) next x) (sym same) (record {
        done = let e = st.done in grind (arith, apart, ne_eqb);
        ended = let e = st.ended in grind (arith, apart, ne_eqb);
        bound = st.bound;
        before = st.before;
        along = st.along;
        given_up = st.given_up;
        safe = st.safe;
      })
]

pub stands_failure : (h : History) (next n : ℕ) (k : Kept) → Stands h next k → IsNumbered next h
    → is_done h n ≡ false → Stands (WriteFailed n ∷ h) next (ended_at n next true k)
stands_failure h next n k st numbered runs = elim (cases_Bool (k.piece.number == n)) [
  | inl is ↦
      let named : k.piece.number ≡ n = eqb-true k.piece.number n is in
      let positive : 0 < next = numbered.some in
      let out = not_ended h n runs in
      let same : ended_at n next true k ≡ record k { end_next = next; has_failed = true } = grind (arith, is) in
      subst (λ x. Stands (WriteFailed n ∷ h) next x) (sym same) (record {
        done = grind (arith, named, lt-ltb);
        ended = grind (arith, named, out, lt-ltb);
        bound = omega arith;
        before = λ v among. let less : v.number < next = numbered.issued v among in let none = not_before h n v.number runs in grind (arith, named, none, nat_le, ltb-true);
        along = λ v among. let none = not_along h n v.number (not_before h n v.number runs) in grind (arith, named, none);
        given_up = st.given_up;
        safe = st.safe;
      })
  | inr other ↦
      let apart = eqb-false k.piece.number n other in
      let same : ended_at n next true k ≡ k = grind (arith, other) in
      subst (λ x. Stands (WriteFailed n ∷ h) next x) (sym same) (record {
        done = let e = st.done in grind (arith, apart, ne_eqb);
        ended = st.ended;
        bound = st.bound;
        before = st.before;
        along = st.along;
        given_up = st.given_up;
        safe = st.safe;
      })
]

pub stands_settled : (h : History) (next : ℕ) (k : Kept) (s : Running) → Stands h next k
    → Touches h k s → Stands (SyncEnded s.number ∷ h) next (settled s k)
stands_settled h next k s st t = record {
  done = st.done;
  ended = st.ended;
  bound = st.bound;
  before = st.before;
  along = st.along;
  given_up = st.given_up;
  safe = let a = st.safe in let b = st.given_up in let c = t.covered in grind (arith, a, b, c);
}

pub stands_given_up : (h : History) (next : ℕ) (k : Kept) (s : Running) → Stands h next k
    → Touches h k s → Stands (SyncFailed s.number ∷ h) next (given_up_by s k)
stands_given_up h next k s st t = record {
  done = st.done;
  ended = st.ended;
  bound = st.bound;
  before = st.before;
  along = st.along;
  given_up = let b = st.given_up in let c = t.reached in grind (arith, b, c);
  safe = st.safe;
}

pub touches_issue : (h : History) (k : Kept) (s : Running) (w : Write) → Touches h k s
    → Touches (WriteIssued w ∷ h) k s
touches_issue h k s w t = record { covered = t.covered; reached = t.reached }

pub touches_new : (h : History) (next : ℕ) (s : Running) (w : Write) → IsNumbered next h → w.number ≡ next
    → Touches (WriteIssued w ∷ h) (record { piece = w; end_next = 0; has_failed = false; failed_yet = false; safe_yet = false }) s
touches_new h next s w numbered is =
    let out = not_ended h w.number (false_from_ne_true (is_done h w.number) (λ e. let b : w.number < next = numbered.done w.number e in omega arith)) in
    record { covered = (uncovered h s.number w out).0; reached = (uncovered h s.number w out).1 }

pub touches_sync : (h : History) (next : ℕ) (range : SyncRange) (k : Kept) (s : Running) → Touches h k s
    → s.number < next → Touches (SyncIssued next range ∷ h) k s
touches_sync h next range k s t less = record {
  covered = let c = t.covered in grind (arith, ne_eqb, c);
  reached = let c = t.reached in grind (arith, ne_eqb, c);
}

pub touches_new_sync : (h : History) (next : ℕ) (range : SyncRange) (k : Kept) → Stands h next k
    → is_covered h next k.piece ≡ false → is_reached h next k.piece ≡ false
    → Touches (SyncIssued next range ∷ h) k (record { number = next; range = range })
touches_new_sync h next range k st un none =
    let b : nat_le k.end_next next ≡ true = le-leb k.end_next next st.bound in
    let e = st.ended in
    record {
      covered = grind (arith, un, b, e);
      reached = grind (arith, none, b, e);
    }

pub touches_end : (h : History) (next n : ℕ) (k : Kept) (s : Running) → Touches h k s → s.number < next
    → is_done h n ≡ false → Touches (WriteEnded n ∷ h) (ended_at n next false k) s
touches_end h next n k s t less runs = elim (cases_Bool (k.piece.number == n)) [
  | inl is ↦
      let named : k.piece.number ≡ n = eqb-true k.piece.number n is in
      let same : ended_at n next false k ≡ record k { end_next = next; has_failed = false } = grind (arith, is) in
      let out : has_ended h k.piece.number ≡ false = subst (λ m. has_ended h m ≡ false) (sym named) (not_ended h n runs) in
      let late : nat_le next s.number ≡ false = grind (arith, nat_le) in
      subst (λ x. Touches (WriteEnded n ∷ h) x s) (sym same) (record {
        covered = let c = (uncovered h s.number k.piece out).0 in grind (arith, c, late);
        reached = let c = (uncovered h s.number k.piece out).1 in grind (arith, c, late);
      })
  | inr other ↦
      let same : ended_at n next false k ≡ k = grind (arith, other) in
      subst (λ x. Touches (WriteEnded n ∷ h) x s) (sym same) (record { covered = t.covered; reached = t.reached })
]

pub touches_failure : (h : History) (next n : ℕ) (k : Kept) (s : Running) → Touches h k s
    → is_done h n ≡ false → Touches (WriteFailed n ∷ h) (ended_at n next true k) s
touches_failure h next n k s t runs = elim (cases_Bool (k.piece.number == n)) [
  | inl is ↦
      let named : k.piece.number ≡ n = eqb-true k.piece.number n is in
      let same : ended_at n next true k ≡ record k { end_next = next; has_failed = true } = grind (arith, is) in
      let out : has_ended h k.piece.number ≡ false = subst (λ m. has_ended h m ≡ false) (sym named) (not_ended h n runs) in
      subst (λ x. Touches (WriteFailed n ∷ h) x s) (sym same) (record {
        covered = let c = (uncovered h s.number k.piece out).0 in grind (arith, c);
        reached = let c = (uncovered h s.number k.piece out).1 in grind (arith, c);
      })
  | inr other ↦
      let same : ended_at n next true k ≡ k = grind (arith, other) in
      subst (λ x. Touches (WriteFailed n ∷ h) x s) (sym same) (record { covered = t.covered; reached = t.reached })
]
