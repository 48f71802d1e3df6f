-- What is kept of a file stands as its history says, after each event.
use Rattle.std.proofs.Common.{◌≡◌, ℕ, ◌==◌, ◌<◌, ◌+◌, true, false, not, List, [], ◌∷◌, ◌++◌, map, refl, sym, subst, ap, ◌∙◌, inl, inr, arith}
use Rattle.std.proofs.lemmas.List.Elements.{filter-append}
use Rattle.uring_volume.proofs.Common.{append-nil, named, History, IsHeld, IsIn, IsLawful, SyncEnded, SyncFailed, SyncIssued, Write, WriteEnded, WriteFailed, WriteIssued, but, both_ways, eqb-false, eqb-true, filter, has_ended, is_done, is_one_of, issued, map-append, ne_eqb, not-true, running_writes, without_write, writes, cases_Bool}
use Rattle.uring_volume.specs.Volume.{IsNumbered}
use Rattle.uring_volume.specs.declared.event.SyncRange.{SyncRange}
use Rattle.uring_volume.specs.declared.kept.Kept.{Kept}
use Rattle.uring_volume.specs.declared.kept.Running.{Running}
use Rattle.uring_volume.specs.Past.{IsPast, Past, Stands, Touches, end_list, ended_at, given_up_by, settled}
use Rattle.uring_volume.proofs.Chosen.{of_issued}
use Rattle.uring_volume.proofs.Fitting.{in_either}
use Rattle.uring_volume.proofs.Folded.{done_of, held_folded}
use Rattle.uring_volume.proofs.Without.{but_without, same_later}
use Rattle.uring_volume.proofs.Numbers.{is_in_but, one_more, runs_still, held_sync, held_sync_end, held_sync_failure, held_write, held_write_end, held_write_failure}
use Rattle.uring_volume.proofs.KeptLists.{but_map, in_map, map_map, of_filter, of_map, passes}
use Rattle.uring_volume.proofs.Ascending.{asc_filter, asc_map, asc_push}
use Rattle.uring_volume.proofs.HowItStands.{not_ended, stands_end, stands_failure, stands_given_up, stands_issue, stands_new, stands_settled, stands_sync, touches_end, touches_failure, touches_issue, touches_new, touches_new_sync, touches_sync, uncovered}

-- a write that runs was issued
pub runs_issued : (h : History) (n : ℕ) → is_one_of n (running_writes h) ≡ true → (w : Write) × IsIn w (writes h) × (w.number ≡ n)
runs_issued [] n is = absurd (cc is)
runs_issued (WriteIssued w ∷ earlier) n is = elim (one_more w.number n (running_writes earlier) is) [
  | inl more ↦ let found = runs_issued earlier n more in (found.0, inr found.1, found.2)
  | inr same ↦ (w, inl refl, sym same)
]
runs_issued (WriteEnded k ∷ earlier) n is = runs_issued earlier n (is_in_but k n (running_writes earlier) is)
runs_issued (WriteFailed k ∷ earlier) n is = runs_issued earlier n (is_in_but k n (running_writes earlier) is)
runs_issued (SyncIssued s range ∷ earlier) n is = runs_issued earlier n is
runs_issued (SyncEnded s ∷ earlier) n is = runs_issued earlier n is
runs_issued (SyncFailed s ∷ earlier) n is = runs_issued earlier n is

pub held_of : (p : Past) → IsPast p → IsHeld (record { unit = 1; first = []; history = p.history; next = p.next }) p.write_list (map (λ s. s.number) p.syncs)
held_of p is = record {
  sound = record { unit = omega arith; lawful = is.lawful; numbered = is.numbered };
  writes = is.writes_run;
  syncs = is.syncs_run;
}

in_issued' : (p : Past) (m : Kept) → IsPast p → IsIn m p.kept → m.piece.number < p.next
in_issued' p m is among = is.numbered.issued m.piece (of_issued p.history m.piece (subst (λ ws. IsIn m.piece ws) is.pieces (in_map (λ (x : Kept). x.piece) m p.kept among)))

abbrev pub new_kept : Write → Kept
new_kept w = record { piece = w; end_next = 0; has_failed = false; failed_yet = false; safe_yet = false }

pub past_write : (p : Past) (w : Write) → IsPast p → w.number ≡ p.next
    → IsPast (record { history = WriteIssued w ∷ p.history; next = p.next + 1; kept = p.kept ++ new_kept w ∷ []; write_list = p.write_list ++ p.next ∷ []; syncs = p.syncs; ends = p.ends })
past_write p w is named =
    let held = held_write (record { unit = 1; first = []; history = p.history; next = p.next }) w.off w.bytes p.write_list (map (λ s. s.number) p.syncs) (held_of p is) in
    let whole : w ≡ record { number = p.next; off = w.off; bytes = w.bytes } = grind (arith, named) in
    record {
      lawful = subst (λ x. IsLawful (WriteIssued x ∷ p.history)) (sym whole) held.sound.lawful;
      numbered = subst (λ x. IsNumbered (p.next + 1) (WriteIssued x ∷ p.history)) (sym whole) held.sound.numbered;
      pieces = let same = is.pieces in grind (arith, map-append, same);
      stands = λ k among. elim (in_either k p.kept (new_kept w ∷ []) among) [
        | inl old ↦ stands_issue p.history p.next k w (is.stands k old) is.numbered named
        | inr new ↦ elim new [
          | inl same ↦ subst (λ x. Stands (WriteIssued w ∷ p.history) (p.next + 1) x) (sym same) (stands_new p.history p.next w is.numbered named)
          | inr none ↦ absurd none
        ]
      ];
      touches = λ k s among there. elim (in_either k p.kept (new_kept w ∷ []) among) [
        | inl old ↦ touches_issue p.history k s w (is.touches k s old there)
        | inr new ↦ elim new [
          | inl same ↦ subst (λ x. Touches (WriteIssued w ∷ p.history) x s) (sym same) (touches_new p.history p.next s w is.numbered named)
          | inr none ↦ absurd none
        ]
      ];
      writes_run = subst (λ x. p.write_list ++ p.next ∷ [] ≡ running_writes (WriteIssued x ∷ p.history)) (sym whole) held.writes;
      syncs_run = is.syncs_run;
      few = λ s among. let b : s.number < p.next = is.few s among in omega arith;
      ascending = asc_push p.kept (new_kept w) is.ascending (λ m among. let found = in_issued' p m is among in omega (arith, found, named));
      ends_are = is.ends_are;
      known = λ n done. let found = is.known n done in (found.0, inr found.1, found.2);
      uncovered = λ s v past. is.uncovered s v (omega arith);
      unreached = λ s v past. is.unreached s v (omega arith);
    }

pub past_sync : (p : Past) (range : SyncRange) → IsPast p
    → IsPast (record { history = SyncIssued p.next range ∷ p.history; next = p.next + 1; kept = p.kept; write_list = p.write_list; syncs = p.syncs ++ (record { number = p.next; range = range }) ∷ []; ends = p.ends })
past_sync p range is =
    let held = held_sync (record { unit = 1; first = []; history = p.history; next = p.next }) range p.write_list (map (λ s. s.number) p.syncs) (held_of p is) in
    let new : Running = record { number = p.next; range = range } in
    record {
      lawful = held.sound.lawful;
      numbered = held.sound.numbered;
      pieces = is.pieces;
      stands = λ k among. stands_sync p.history p.next p.next range k (is.stands k among);
      touches = λ k s among there. elim (in_either s p.syncs (new ∷ []) there) [
        | inl old ↦ touches_sync p.history p.next range k s (is.touches k s among old) (is.few s old)
        | inr last ↦ elim last [
          | inl same ↦ subst (λ x. Touches (SyncIssued p.next range ∷ p.history) k x) (sym same) (touches_new_sync p.history p.next range k (is.stands k among) (is.uncovered p.next k.piece (omega arith)) (is.unreached p.next k.piece (omega arith)))
          | inr none ↦ absurd none
        ]
      ];
      writes_run = is.writes_run;
      syncs_run = let same = held.syncs in grind (arith, map-append, same);
      few = λ s there. elim (in_either s p.syncs (new ∷ []) there) [
        | inl old ↦ let b : s.number < p.next = is.few s old in omega arith
        | inr last ↦ elim last [
          | inl same ↦ let e : s.number ≡ p.next = ap (λ (x : Running). x.number) same in omega arith
          | inr none ↦ absurd none
        ]
      ];
      ascending = is.ascending;
      ends_are = is.ends_are;
      known = is.known;
      uncovered = λ s v past. let un = is.uncovered s v (omega arith) in grind (arith, un, ne_eqb);
      unreached = λ s v past. let un = is.unreached s v (omega arith) in grind (arith, un, ne_eqb);
    }

pub past_end : (p : Past) (n : ℕ) → IsPast p → is_one_of n p.write_list ≡ true
    → IsPast (record { history = WriteEnded n ∷ p.history; next = p.next; kept = map (ended_at n p.next false) p.kept; write_list = but n p.write_list; syncs = p.syncs; ends = p.ends ++ n ∷ [] })
past_end p n is runs =
    let held = held_write_end (record { unit = 1; first = []; history = p.history; next = p.next }) n p.write_list (map (λ s. s.number) p.syncs) (held_of p is) runs in
    let out : is_done p.history n ≡ false = runs_still p.history n is.lawful (subst (λ ns. is_one_of n ns ≡ true) is.writes_run runs) in
    record {
      lawful = held.sound.lawful;
      numbered = held.sound.numbered;
      pieces = map_map (ended_at n p.next false) (λ k. k.piece) (λ k. k.piece) p.kept (λ k. grind arith) ∙ is.pieces;
      stands = λ k among.
          let found = of_map (ended_at n p.next false) k p.kept among in
          subst (λ x. Stands (WriteEnded n ∷ p.history) p.next x) (sym found.2) (stands_end p.history p.next n found.0 (is.stands found.0 found.1) is.numbered out);
      touches = λ k s among there.
          let found = of_map (ended_at n p.next false) k p.kept among in
          subst (λ x. Touches (WriteEnded n ∷ p.history) x s) (sym found.2) (touches_end p.history p.next n found.0 s (is.touches found.0 s found.1 there) (is.few s there) out);
      writes_run = held.writes;
      syncs_run = is.syncs_run;
      few = is.few;
      ascending = asc_map (ended_at n p.next false) p.kept (λ k. grind arith) is.ascending;
      ends_are = ap (λ ns. ns ++ n ∷ []) is.ends_are;
      known = λ m done. elim (cases_Bool (n == m)) [
        | inl same ↦ let found = runs_issued p.history n (subst (λ ns. is_one_of n ns ≡ true) is.writes_run runs) in (found.0, found.1, found.2 ∙ eqb-true n m same)
        | inr other ↦ is.known m (grind (arith, other, done))
      ];
      uncovered = is.uncovered;
      unreached = is.unreached;
    }

pub past_failure : (p : Past) (n : ℕ) → IsPast p → is_one_of n p.write_list ≡ true
    → IsPast (record { history = WriteFailed n ∷ p.history; next = p.next; kept = map (ended_at n p.next true) p.kept; write_list = but n p.write_list; syncs = p.syncs; ends = p.ends })
past_failure p n is runs =
    let held = held_write_failure (record { unit = 1; first = []; history = p.history; next = p.next }) n p.write_list (map (λ s. s.number) p.syncs) (held_of p is) runs in
    let out : is_done p.history n ≡ false = runs_still p.history n is.lawful (subst (λ ns. is_one_of n ns ≡ true) is.writes_run runs) in
    record {
      lawful = held.sound.lawful;
      numbered = held.sound.numbered;
      pieces = map_map (ended_at n p.next true) (λ k. k.piece) (λ k. k.piece) p.kept (λ k. grind arith) ∙ is.pieces;
      stands = λ k among.
          let found = of_map (ended_at n p.next true) k p.kept among in
          subst (λ x. Stands (WriteFailed n ∷ p.history) p.next x) (sym found.2) (stands_failure p.history p.next n found.0 (is.stands found.0 found.1) is.numbered out);
      touches = λ k s among there.
          let found = of_map (ended_at n p.next true) k p.kept among in
          subst (λ x. Touches (WriteFailed n ∷ p.history) x s) (sym found.2) (touches_failure p.history p.next n found.0 s (is.touches found.0 s found.1 there) out);
      writes_run = held.writes;
      syncs_run = is.syncs_run;
      few = is.few;
      ascending = asc_map (ended_at n p.next true) p.kept (λ k. grind arith) is.ascending;
      ends_are = is.ends_are;
      known = λ m done. elim (cases_Bool (n == m)) [
        | inl same ↦ let found = runs_issued p.history n (subst (λ ns. is_one_of n ns ≡ true) is.writes_run runs) in (found.0, found.1, found.2 ∙ eqb-true n m same)
        | inr other ↦ is.known m (grind (arith, other, done))
      ];
      uncovered = is.uncovered;
      unreached = is.unreached;
    }

pub past_settled : (p : Past) (s : Running) → IsPast p → IsIn s p.syncs
    → IsPast (record { history = SyncEnded s.number ∷ p.history; next = p.next; kept = map (settled s) p.kept; write_list = p.write_list; syncs = filter (λ t. not (t.number == s.number)) p.syncs; ends = p.ends })
past_settled p s is there =
    let held = held_sync_end (record { unit = 1; first = []; history = p.history; next = p.next }) s.number p.write_list (map (λ t. t.number) p.syncs) (held_of p is) in
    record {
      lawful = held.sound.lawful;
      numbered = held.sound.numbered;
      pieces = map_map (settled s) (λ k. k.piece) (λ k. k.piece) p.kept (λ k. refl) ∙ is.pieces;
      stands = λ k among.
          let found = of_map (settled s) k p.kept among in
          subst (λ x. Stands (SyncEnded s.number ∷ p.history) p.next x) (sym found.2) (stands_settled p.history p.next found.0 s (is.stands found.0 found.1) (is.touches found.0 s found.1 there));
      touches = λ k t among other.
          let found = of_map (settled s) k p.kept among in
          let one = is.touches found.0 t found.1 (of_filter (λ (x : Running). not (x.number == s.number)) t p.syncs other) in
          subst (λ x. Touches (SyncEnded s.number ∷ p.history) x t) (sym found.2) (record { covered = one.covered; reached = one.reached });
      writes_run = held.writes;
      syncs_run = but_map s.number p.syncs ∙ held.syncs;
      few = λ t among. is.few t (of_filter (λ (x : Running). not (x.number == s.number)) t p.syncs among);
      ascending = asc_map (settled s) p.kept (λ k. refl) is.ascending;
      ends_are = is.ends_are;
      known = is.known;
      uncovered = is.uncovered;
      unreached = is.unreached;
    }

pub past_given_up : (p : Past) (s : Running) → IsPast p → IsIn s p.syncs
    → IsPast (record { history = SyncFailed s.number ∷ p.history; next = p.next; kept = map (given_up_by s) p.kept; write_list = p.write_list; syncs = filter (λ t. not (t.number == s.number)) p.syncs; ends = p.ends })
past_given_up p s is there =
    let held = held_sync_failure (record { unit = 1; first = []; history = p.history; next = p.next }) s.number p.write_list (map (λ t. t.number) p.syncs) (held_of p is) in
    record {
      lawful = held.sound.lawful;
      numbered = held.sound.numbered;
      pieces = map_map (given_up_by s) (λ k. k.piece) (λ k. k.piece) p.kept (λ k. refl) ∙ is.pieces;
      stands = λ k among.
          let found = of_map (given_up_by s) k p.kept among in
          subst (λ x. Stands (SyncFailed s.number ∷ p.history) p.next x) (sym found.2) (stands_given_up p.history p.next found.0 s (is.stands found.0 found.1) (is.touches found.0 s found.1 there));
      touches = λ k t among other.
          let found = of_map (given_up_by s) k p.kept among in
          let one = is.touches found.0 t found.1 (of_filter (λ (x : Running). not (x.number == s.number)) t p.syncs other) in
          subst (λ x. Touches (SyncFailed s.number ∷ p.history) x t) (sym found.2) (record { covered = one.covered; reached = one.reached });
      writes_run = held.writes;
      syncs_run = but_map s.number p.syncs ∙ held.syncs;
      few = λ t among. is.few t (of_filter (λ (x : Running). not (x.number == s.number)) t p.syncs among);
      ascending = asc_map (given_up_by s) p.kept (λ k. refl) is.ascending;
      ends_are = is.ends_are;
      known = is.known;
      uncovered = is.uncovered;
      unreached = is.unreached;
    }

map_filter : (n : ℕ) (ks : List Kept) → map (λ k. k.piece) (filter (λ k. not (k.piece.number == n)) ks) ≡ filter (λ w. not (w.number == n)) (map (λ k. k.piece) ks)
map_filter n [] = refl
map_filter n (k ∷ ks) = grind (arith, (map_filter n ks))

pub issued_without : (n : ℕ) (h : History) → issued (without_write n h) ≡ filter (λ w. not (w.number == n)) (issued h)
issued_without n [] = refl
issued_without n (WriteIssued w ∷ earlier) = grind (arith, filter-append, append-nil, (issued_without n earlier))
issued_without n (WriteEnded k ∷ earlier) = grind (arith, (issued_without n earlier))
issued_without n (WriteFailed k ∷ earlier) = grind (arith, (issued_without n earlier))
issued_without n (e ∷ earlier) = issued_without n earlier

no_end : (n : ℕ) (h : History) → is_done (without_write n h) n ≡ false
no_end n [] = refl
no_end n (WriteIssued w ∷ earlier) = grind (arith, (no_end n earlier))
no_end n (WriteEnded k ∷ earlier) = grind (arith, (no_end n earlier))
no_end n (WriteFailed k ∷ earlier) = grind (arith, (no_end n earlier))
no_end n (e ∷ earlier) = no_end n earlier

ends_without : (n : ℕ) (h : History) → end_list (without_write n h) ≡ but n (end_list h)
ends_without n [] = refl
ends_without n (WriteIssued w ∷ earlier) = grind (arith, (ends_without n earlier))
ends_without n (WriteEnded k ∷ earlier) = grind (arith, filter-append, append-nil, (ends_without n earlier))
ends_without n (WriteFailed k ∷ earlier) = grind (arith, (ends_without n earlier))
ends_without n (e ∷ earlier) = ends_without n earlier

pub past_without : (p : Past) (n : ℕ) → IsPast p → is_done p.history n ≡ true
    → IsPast (record { history = without_write n p.history; next = p.next; kept = filter (λ k. not (k.piece.number == n)) p.kept; write_list = p.write_list; syncs = p.syncs; ends = but n p.ends })
past_without p n is gone =
    let held = held_folded (record { unit = 1; first = []; history = p.history; next = p.next }) n [] p.write_list (map (λ t. t.number) p.syncs) (held_of p is) gone in
    let same = same_later n [] p.history in
    let from = λ (k : Kept) (among : IsIn k (filter (λ (x : Kept). not (x.piece.number == n)) p.kept)). of_filter (λ (x : Kept). not (x.piece.number == n)) k p.kept among in
    let apart = λ (k : Kept) (among : IsIn k (filter (λ (x : Kept). not (x.piece.number == n)) p.kept)). eqb-false k.piece.number n (not-true (k.piece.number == n) (passes (λ (x : Kept). not (x.piece.number == n)) k p.kept among)) in
    record {
      lawful = held.sound.lawful;
      numbered = held.sound.numbered;
      pieces = map_filter n p.kept ∙ ap (filter (λ v. not (v.number == n))) is.pieces ∙ sym (issued_without n p.history);
      stands = λ k among.
          let s = is.stands k (from k among) in
          let other = apart k among in
          record {
            done = same.done k.piece.number other ∙ s.done;
            ended = same.ended k.piece.number other ∙ s.ended;
            bound = s.bound;
            before = λ v there.
                let old = (but_without n p.history).of v there in
                same.before k.piece.number v.number other old.1 ∙ s.before v old.0;
            along = λ v there.
                let old = (but_without n p.history).of v there in
                same.along k.piece.number v.number other old.1 ∙ s.along v old.0;
            given_up = same.given_up k.piece other ∙ s.given_up;
            safe = same.safe k.piece other ∙ s.safe;
          };
      touches = λ k t among there.
          let one = is.touches k t (from k among) there in
          let other = apart k among in
          record { covered = same.covered t.number k.piece other ∙ one.covered; reached = same.reached t.number k.piece other ∙ one.reached };
      writes_run = held.writes;
      syncs_run = held.syncs;
      few = is.few;
      ascending = asc_filter (λ k. not (k.piece.number == n)) p.kept is.ascending;
      ends_are = ap (but n) is.ends_are ∙ sym (ends_without n p.history);
      known = λ m done.
          let found = is.known m (done_of n m p.history done) in
          let other : (found.0.number ≡ n → ⊥) = λ same. both_ways (is_done (without_write n p.history) n) (no_end n p.history) (subst (λ i. is_done (without_write n p.history) i ≡ true) (sym found.2 ∙ same) done) in
          (found.0, (but_without n p.history).into found.0 found.1 other, found.2);
      uncovered = λ s v past. elim (cases_Bool (v.number == n)) [
        | inl named ↦ (uncovered (without_write n p.history) s v (subst (λ m. has_ended (without_write n p.history) m ≡ false) (sym (eqb-true v.number n named)) (not_ended (without_write n p.history) n (no_end n p.history)))).0
        | inr other ↦ same.covered s v (eqb-false v.number n other) ∙ is.uncovered s v past
      ];
      unreached = λ s v past. elim (cases_Bool (v.number == n)) [
        | inl named ↦ (uncovered (without_write n p.history) s v (subst (λ m. has_ended (without_write n p.history) m ≡ false) (sym (eqb-true v.number n named)) (not_ended (without_write n p.history) n (no_end n p.history)))).1
        | inr other ↦ same.reached s v (eqb-false v.number n other) ∙ is.unreached s v past
      ];
    }

pub carried_past : (p : Past) (h : History) (next : ℕ) (kept : List Kept) (ws : List ℕ) (ss : List Running) (es : List ℕ)
    → IsPast p → h ≡ p.history → next ≡ p.next → kept ≡ p.kept → ws ≡ p.write_list → ss ≡ p.syncs → es ≡ p.ends
    → IsPast (record { history = h; next = next; kept = kept; write_list = ws; syncs = ss; ends = es })
carried_past p h next kept ws ss es is a b c d e f = rw (a, b, c, d, e, f) is
