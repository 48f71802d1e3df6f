-- What a commit adds to a log: its record is kept, and what was kept before is.
use Rattle.std.proofs.Common.{◌≡◌, ◌+◌, ℕ, Bool, true, false, cond, List, [], ◌∷◌, ◌++◌, length, refl, arith}
use Rattle.uring_callers.proofs.Common.{and_right, not_from_false, or_from, or_right}
use Rattle.std.proofs.lemmas.List.Folds.{list_any-append}
use Rattle.uring_volume.proofs.Fitting.{ended_done}
use Rattle.uring_volume.specs.Writes.{Write}
use Rattle.uring_volume.specs.declared.event.SyncRange.TheVariants.{Whole}
use Rattle.uring_volume.specs.declared.event.Event.TheVariants.{WriteIssued, WriteEnded, SyncIssued, SyncEnded}
use Rattle.uring_volume.specs.Events.{History, has_ended, is_reached, is_given_up}
use Rattle.uring_volume.specs.Laws.{IsKept}
use Rattle.uring_volume.specs.Volume.{Volume, IsSound, is_one_of, running_writes, running_syncs, with_event, with_write, with_sync}
use Rattle.uring_callers.specs.Stores.{EndsBy}

-- a write that hasn't ended is reached by no sync

not_reached : (h : History) (s : ℕ) (w : Write) → has_ended h w.number ≡ false
    → is_reached h s w ≡ false
not_reached [] s w none = refl
not_reached (e ∷ earlier) s w none = grind (arith, and_right, (not_reached earlier s w))

not_given_up : (h : History) (w : Write) → has_ended h w.number ≡ false → is_given_up h w ≡ false
not_given_up [] w none = refl
not_given_up (e ∷ earlier) w none = grind (arith, or_from, not_reached, (not_given_up earlier w))

-- the history of a log with a record more
abbrev pub with_record : History → Write → ℕ → History
with_record h w s = SyncEnded s ∷ SyncIssued s Whole ∷ WriteEnded w.number ∷ WriteIssued w ∷ h

just_begun : (n : ℕ) (ns : List ℕ) → is_one_of n (ns ++ n ∷ []) ≡ true
just_begun n ns = grind (arith, list_any-append, or_right)

-- What the calls of a commit made of a log.
pub record IsCommitted (old new : Volume) (end : ℕ) (bytes : List ℕ) (n : ℕ) : Type 0 where
  pub s : ℕ
  pub number : n ≡ old.next
  pub history : new.history ≡ with_record old.history (record { number = n; off = end; bytes = bytes }) s

pub committed : (v v1 v2 v3 v4 : Volume) (end : ℕ) (bytes : List ℕ) (n s : ℕ) (ran synced : Bool)
    → v1 ≡ with_write end bytes v → n ≡ v.next → ran ≡ is_one_of n (running_writes v1.history)
    → v2 ≡ cond ran (with_event (WriteEnded n) v1) v1 → v3 ≡ with_sync Whole v2 → s ≡ v2.next
    → synced ≡ is_one_of s (running_syncs v3.history)
    → v4 ≡ cond synced (with_event (SyncEnded s) v3) v3 → IsCommitted v v4 end bytes n
committed v v1 v2 v3 v4 end bytes n s ran synced e1 number r e2 e3 sync t e4 =
    let is : ran ≡ true = grind (arith, just_begun) in
    let is3 : synced ≡ true = grind (arith, just_begun) in
    record { s = s; number = number; history = rw (e4, is3, e3, sync, e2, is, e1, number) refl }

pub commit_keeps : (old new : Volume) (end : ℕ) (bytes : List ℕ) (n : ℕ) → IsSound old
    → EndsBy end old.history → IsCommitted old new end bytes n
    → IsKept new.history (record { number = n; off = end; bytes = bytes })
commit_keeps old new end bytes n sound after made =
    rw made.history (grind (arith, not_from_false, not_given_up, (ended_done old.history n), made.number, sound, after))

pub commit_leaves : (old new : Volume) (end : ℕ) (bytes : List ℕ) (n : ℕ) → EndsBy end old.history
    → IsCommitted old new end bytes n → (w : Write) → IsKept old.history w → IsKept new.history w
commit_leaves old new end bytes n after made w kept = grind arith

pub commit_ends : (old new : Volume) (end : ℕ) (bytes : List ℕ) (n : ℕ) → EndsBy end old.history
    → IsCommitted old new end bytes n → EndsBy (end + length bytes) new.history
commit_ends old new end bytes n after made = grind arith
