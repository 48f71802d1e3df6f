-- A volume that was folded stays folded from the other one, whatever happens next.
use Rattle.std.proofs.Common.{◌≡◌, ◌+◌, ◌||◌, ◌==◌, ◌&&◌, ℕ, true, false, List, [], ◌∷◌, ◌++◌, ◌⊎◌, length, refl, sym, subst, ap, ◌∙◌, inl, inr, arith}
use Rattle.uring_volume.proofs.Common.{Event, History, IsFoldedFrom, IsHeld, IsImage, IsIn, IsLawful, IsSound, SyncEnded, SyncFailed, SyncIssued, Volume, Write, WriteEnded, WriteFailed, WriteIssued, append_assoc, both_ways, but, ended, false_from_ne_true, has_ended, is_before, is_done, is_one_of, is_safe, issued, length_over, named, or_right, running_syncs, running_writes, with_event, with_sync, with_write, writes}
use Rattle.uring_volume.specs.declared.event.SyncRange.{SyncRange}
use Rattle.uring_volume.specs.Folds.{IsUnderSafe}
use Rattle.uring_volume.proofs.Fitting.{ended_done, not_before}
use Rattle.uring_volume.proofs.KeptTells.{no_number}
use Rattle.uring_volume.proofs.Numbers.{held_write, is_in_but, one_more}
use Rattle.uring_volume.proofs.ShownLength.{one_named, over_both, over_from}
use Rattle.uring_volume.proofs.Without.{in_later}

-- What holds after one event more, if it held before.

safe_more : (e : Event) (h : History) (w : Write) → is_safe h w ≡ true → is_safe (e ∷ h) w ≡ true
safe_more (SyncEnded s) h w is = or_right _ (is_safe h w) is
safe_more e h w is = is

before_more : (e : Event) (h : History) (m n : ℕ) → is_before h m n ≡ true → is_before (e ∷ h) m n ≡ true
before_more (WriteIssued w) h m n is = or_right _ (is_before h m n) is
before_more e h m n is = is

under_more : (e : Event) (h : History) (w : Write) → IsUnderSafe h w → IsUnderSafe (e ∷ h) w
under_more e h w s = record {
  issued = in_later (e ∷ []) h w s.issued;
  over = s.over;
  over_issued = in_later (e ∷ []) h s.over s.over_issued;
  safe = safe_more e h s.over s.safe;
  before = before_more e h w.number s.over.number s.before;
  from = s.from;
  to = s.to;
}

-- h tells the same as g of what is there, with this event after both
record TellsAfter (e : Event) (g h : History) : Type 0 where
  before : (m w : Write) → IsIn m (writes (e ∷ h)) → IsIn w (writes (e ∷ h))
      → is_before (e ∷ h) m.number w.number ≡ is_before (e ∷ g) m.number w.number
  have_ended : (w : Write) → IsIn w (writes (e ∷ h)) → has_ended (e ∷ h) w.number ≡ has_ended (e ∷ g) w.number
  are_done : (w : Write) → IsIn w (writes (e ∷ h)) → is_done (e ∷ h) w.number ≡ is_done (e ∷ g) w.number
  none_new : (w : Write) → IsIn w (writes (e ∷ h)) → IsIn w (writes (e ∷ g))
  gone : (w : Write) → IsIn w (writes (e ∷ g))
      → IsIn w (writes (e ∷ h)) ⊎ ((is_safe (e ∷ g) w ≡ true) ⊎ IsUnderSafe (e ∷ g) w)
  writes_run : running_writes (e ∷ h) ≡ running_writes (e ∷ g)
  syncs_run : running_syncs (e ∷ h) ≡ running_syncs (e ∷ g)

-- a volume with this event more, and this next number
abbrev after : Event → ℕ → Volume → Volume
after e next v = record v { history = e ∷ v.history; next = next }

folded_after : (old new : Volume) (e : Event) (next : ℕ) → IsFoldedFrom old new
    → TellsAfter e old.history new.history
    → length_over (length new.first) (ended (e ∷ new.history)) ≡ length_over (length old.first) (ended (e ∷ old.history))
    → IsFoldedFrom (after e next old) (after e next new)
folded_after old new e next f t shown = record {
  unit = f.unit;
  next = refl;
  images = λ later now l.
      let assoc : (h : History) → (later ++ e ∷ []) ++ h ≡ later ++ e ∷ h = λ h. append_assoc later (e ∷ []) h in
      let same = f.images (later ++ e ∷ []) now (subst IsLawful (sym (assoc old.history)) l) in (
        λ i. subst (λ (h : History). IsImage new.unit new.first h now) (assoc new.history) (same.0 (subst (λ (h : History). IsImage old.unit old.first h now) (sym (assoc old.history)) i)),
        λ i. subst (λ (h : History). IsImage old.unit old.first h now) (assoc old.history) (same.1 (subst (λ (h : History). IsImage new.unit new.first h now) (sym (assoc new.history)) i)),
      );
  safe = λ later w l among.
      let assoc : (h : History) → (later ++ e ∷ []) ++ h ≡ later ++ e ∷ h = λ h. append_assoc later (e ∷ []) h in
      ap (λ (h : History). is_safe h w) (sym (assoc new.history))
      ∙ f.safe (later ++ e ∷ []) w (subst IsLawful (sym (assoc old.history)) l) (subst (λ (h : History). IsIn w (writes h)) (sym (assoc new.history)) among)
      ∙ ap (λ (h : History). is_safe h w) (assoc old.history);
  lawful = λ later l.
      let assoc : (h : History) → (later ++ e ∷ []) ++ h ≡ later ++ e ∷ h = λ h. append_assoc later (e ∷ []) h in
      subst IsLawful (assoc new.history) (f.lawful (later ++ e ∷ []) (subst IsLawful (sym (assoc old.history)) l));
  before = t.before;
  have_ended = t.have_ended;
  are_done = t.are_done;
  none_new = t.none_new;
  gone = t.gone;
  writes_run = t.writes_run;
  syncs_run = t.syncs_run;
  shown = shown;
}

-- A write that was there, or is gone, with one event more.
gone_more : (old new : Volume) (e : Event) (w : Write) → IsFoldedFrom old new → IsIn w (writes old.history)
    → IsIn w (writes (e ∷ new.history)) ⊎ ((is_safe (e ∷ old.history) w ≡ true) ⊎ IsUnderSafe (e ∷ old.history) w)
gone_more old new e w f among = elim (f.gone w among) [
  | inl there ↦ inl (in_later (e ∷ []) new.history w there)
  | inr out ↦ elim out as (λ _. IsIn w (writes (e ∷ new.history)) ⊎ ((is_safe (e ∷ old.history) w ≡ true) ⊎ IsUnderSafe (e ∷ old.history) w)) [
    | inl safe ↦ inr (inl (safe_more e old.history w safe))
    | inr under ↦ inr (inr (under_more e old.history w under))
  ]
]

-- Each event.

-- what isn't done hasn't ended
not_ended : (h : History) (n : ℕ) → is_done h n ≡ false → has_ended h n ≡ false
not_ended h n out = false_from_ne_true (has_ended h n) (λ is. both_ways (is_done h n) out (ended_done h n is))

-- a write is issued
tells_write : (old new : Volume) (v : Write) → IsFoldedFrom old new
    → IsLawful (WriteIssued v ∷ old.history) → IsLawful (WriteIssued v ∷ new.history)
    → TellsAfter (WriteIssued v) old.history new.history
tells_write old new v f l k = record {
  before = λ m w am aw. elim am [
    | inl mine ↦
        let none_old : is_before (WriteIssued v ∷ old.history) v.number w.number ≡ false = not_before (WriteIssued v ∷ old.history) v.number w.number l.1 in
        let none_new : is_before (WriteIssued v ∷ new.history) v.number w.number ≡ false = not_before (WriteIssued v ∷ new.history) v.number w.number k.1 in
        subst (λ (x : Write). is_before (WriteIssued v ∷ new.history) x.number w.number ≡ is_before (WriteIssued v ∷ old.history) x.number w.number) (sym mine) (none_new ∙ sym none_old)
    | inr am ↦ elim aw [
      | inl here ↦
          let out_old = no_number old.history m.number v.number l.0 in
          let out_new = no_number new.history m.number v.number k.0 in
          let same = f.are_done m am in
          subst (λ (x : Write). is_before (WriteIssued v ∷ new.history) m.number x.number ≡ is_before (WriteIssued v ∷ old.history) m.number x.number) (sym here) (grind (arith, out_old, out_new, same))
      | inr aw ↦
          let same = f.are_done m am in
          let order = f.before m w am aw in
          grind (arith, same, order)
    ]
  ];
  have_ended = λ w among. elim among [
    | inl mine ↦ subst (λ (x : Write). has_ended new.history x.number ≡ has_ended old.history x.number) (sym mine) (not_ended new.history v.number k.1 ∙ sym (not_ended old.history v.number l.1))
    | inr more ↦ f.have_ended w more
  ];
  are_done = λ w among. elim among [
    | inl mine ↦ subst (λ (x : Write). is_done new.history x.number ≡ is_done old.history x.number) (sym mine) (k.1 ∙ sym l.1)
    | inr more ↦ f.are_done w more
  ];
  none_new = λ w among. elim among [
    | inl mine ↦ inl mine
    | inr more ↦ inr (f.none_new w more)
  ];
  gone = λ w among. elim among [
    | inl mine ↦ inl (inl mine)
    | inr more ↦ gone_more old new (WriteIssued v) w f more
  ];
  writes_run = ap (λ (ns : List ℕ). ns ++ v.number ∷ []) f.writes_run;
  syncs_run = f.syncs_run;
}

pub folded_write : (old new : Volume) (off : ℕ) (bytes : List ℕ) → IsSound old → IsFoldedFrom old new
    → IsFoldedFrom (with_write off bytes old) (with_write off bytes new)
folded_write old new off bytes sound f =
    let v : Write = record { number = old.next; off = off; bytes = bytes } in
    let held : IsHeld old (running_writes old.history) (running_syncs old.history) = record { sound = sound; writes = refl; syncs = refl } in
    let l : IsLawful (WriteIssued v ∷ old.history) = (held_write old off bytes (running_writes old.history) (running_syncs old.history) held).sound.lawful in
    let k : IsLawful (WriteIssued v ∷ new.history) = f.lawful (WriteIssued v ∷ []) l in
    subst (λ (n : ℕ). IsFoldedFrom (with_write off bytes old) (record new { history = WriteIssued (record { number = n; off = off; bytes = bytes }) ∷ new.history; next = n + 1 })) (sym f.next)
    (folded_after old new (WriteIssued v) (old.next + 1) f (tells_write old new v f l k) f.shown)

-- a sync is issued
pub folded_sync : (old new : Volume) (range : SyncRange) → IsFoldedFrom old new
    → IsFoldedFrom (with_sync range old) (with_sync range new)
folded_sync old new range f =
    subst (λ (n : ℕ). IsFoldedFrom (with_sync range old) (record new { history = SyncIssued n range ∷ new.history; next = n + 1 })) (sym f.next)
    (folded_after old new (SyncIssued old.next range) (old.next + 1) f (record {
      before = f.before;
      have_ended = f.have_ended;
      are_done = f.are_done;
      none_new = f.none_new;
      gone = λ w among. gone_more old new (SyncIssued old.next range) w f among;
      writes_run = f.writes_run;
      syncs_run = ap (λ (ns : List ℕ). ns ++ old.next ∷ []) f.syncs_run;
    }) f.shown)

-- an event that gives no number
same_next : (old new : Volume) (e : Event) → IsFoldedFrom old new → IsFoldedFrom (after e old.next old) (after e old.next new)
    → IsFoldedFrom (with_event e old) (with_event e new)
same_next old new e f is = subst (λ (n : ℕ). IsFoldedFrom (with_event e old) (after e n new)) (sym f.next) is

-- what runs was issued
pub runs_issued : (h : History) (n : ℕ) → is_one_of n (running_writes h) ≡ true → (w : Write) × IsIn w (writes h) × (w.number ≡ n)
runs_issued [] n is = absurd (both_ways false refl is)
runs_issued (WriteIssued w ∷ earlier) n is = elim (one_more w.number n (running_writes earlier) is) [
  | inl old ↦ let found = runs_issued earlier n old in (found.0, inr found.1, found.2)
  | inr new ↦ (w, inl refl, sym new)
]
runs_issued (WriteEnded k ∷ earlier) n is = runs_issued earlier n (is_in_but k n (running_writes earlier) is)
runs_issued (WriteFailed k ∷ earlier) n is = runs_issued earlier n (is_in_but k n (running_writes earlier) is)
runs_issued (e ∷ earlier) n is = runs_issued earlier n is

-- a write ends
shown_end : (old new : Volume) (n : ℕ) → IsSound old → IsFoldedFrom old new → is_one_of n (running_writes old.history) ≡ true
    → length_over (length new.first) (ended (WriteEnded n ∷ new.history)) ≡ length_over (length old.first) (ended (WriteEnded n ∷ old.history))
shown_end old new n sound f runs =
    let found = runs_issued new.history n (subst (λ (ns : List ℕ). is_one_of n ns ≡ true) (sym f.writes_run) runs) in
    let w : Write = found.0 in
    let in_new : named n (issued new.history) ≡ w ∷ [] = subst (λ (k : ℕ). named k (issued new.history) ≡ w ∷ []) found.2 (one_named new.history w (f.lawful [] sound.lawful) found.1) in
    let in_old : named n (issued old.history) ≡ w ∷ [] = subst (λ (k : ℕ). named k (issued old.history) ≡ w ∷ []) found.2 (one_named old.history w sound.lawful (f.none_new w found.1)) in
    ap (λ (ws : List Write). length_over (length new.first) (ended new.history ++ ws)) in_new
    ∙ over_both (length new.first) (ended new.history) (w ∷ [])
    ∙ ap (λ (n : ℕ). length_over n (w ∷ [])) f.shown
    ∙ sym (over_both (length old.first) (ended old.history) (w ∷ []))
    ∙ sym (ap (λ (ws : List Write). length_over (length old.first) (ended old.history ++ ws)) in_old)

pub folded_write_end : (old new : Volume) (n : ℕ) → IsSound old → IsFoldedFrom old new → is_one_of n (running_writes old.history) ≡ true
    → IsFoldedFrom (with_event (WriteEnded n) old) (with_event (WriteEnded n) new)
folded_write_end old new n sound f runs =
    same_next old new (WriteEnded n) f (folded_after old new (WriteEnded n) old.next f (record {
      before = f.before;
      have_ended = λ w among. ap (λ b. n == w.number || b) (f.have_ended w among);
      are_done = λ w among. ap (λ b. n == w.number || b) (f.are_done w among);
      none_new = f.none_new;
      gone = λ w among. gone_more old new (WriteEnded n) w f among;
      writes_run = ap (but n) f.writes_run;
      syncs_run = f.syncs_run;
    }) (shown_end old new n sound f runs))

-- a sync ends, with success and with an error
pub folded_sync_end : (old new : Volume) (s : ℕ) → IsFoldedFrom old new
    → IsFoldedFrom (with_event (SyncEnded s) old) (with_event (SyncEnded s) new)
folded_sync_end old new s f =
    same_next old new (SyncEnded s) f (folded_after old new (SyncEnded s) old.next f (record {
      before = f.before;
      have_ended = f.have_ended;
      are_done = f.are_done;
      none_new = f.none_new;
      gone = λ w among. gone_more old new (SyncEnded s) w f among;
      writes_run = f.writes_run;
      syncs_run = ap (but s) f.syncs_run;
    }) f.shown)

pub folded_sync_failure : (old new : Volume) (s : ℕ) → IsFoldedFrom old new
    → IsFoldedFrom (with_event (SyncFailed s) old) (with_event (SyncFailed s) new)
folded_sync_failure old new s f =
    same_next old new (SyncFailed s) f (folded_after old new (SyncFailed s) old.next f (record {
      before = f.before;
      have_ended = f.have_ended;
      are_done = f.are_done;
      none_new = f.none_new;
      gone = λ w among. gone_more old new (SyncFailed s) w f among;
      writes_run = f.writes_run;
      syncs_run = ap (but s) f.syncs_run;
    }) f.shown)
