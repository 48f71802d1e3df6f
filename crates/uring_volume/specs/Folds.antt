-- Which writes can be folded into the first bytes of a file, so that no crash ever tells the difference. Our own rule.
use Rattle.std.specs.Prelude.{◌≡◌, ◌≢◌, ◌↔◌, ◌⊎◌, ℕ, ◌+◌, ◌<◌, ◌≤◌, nat_le, nat_lt, Bool, true, false, not, ◌&&◌, ◌||◌, ◌==◌, min, max, List, [], ◌∷◌, ◌++◌, length, slice_index}
use Rattle.std.specs.List.{list_any, filter}
use Rattle.uring_volume.specs.Writes.{Write}
use Rattle.uring_volume.specs.declared.event.Event.{Event}
use Rattle.uring_volume.specs.declared.event.Event.TheVariants.{WriteIssued, WriteEnded, WriteFailed, SyncIssued, SyncEnded, SyncFailed}
use Rattle.uring_volume.specs.Events.{History, writes, has_ended, is_done, is_before, goes_along, is_safe}
use Rattle.uring_volume.specs.Images.{IsIn, is_under, end_of, byte_over, length_over, IsImage}
use Rattle.uring_volume.specs.Choices.{IsLawful, issued}
use Rattle.uring_volume.specs.Volume.{Volume, ended, running_writes, running_syncs}

-- A write that can be folded: it is safe, so is each write that goes along with it, and it is before each other write of a byte of it.
pub record IsFoldable (h : History) (w : Write) : Type 0 where
  pub issued : IsIn w (writes h)
  pub safe : is_safe h w ≡ true
  pub oldest : (m : Write) → IsIn m (writes h) → goes_along h m.number w.number ≡ true → is_safe h m ≡ true
  pub lowest : (m : Write) (k : ℕ) → IsIn m (writes h) → m ≢ w → is_under m k ≡ true
      → is_under w k ≡ true → is_before h w.number m.number ≡ true

-- A write that can be let go: all of its bytes lie under a safe one that it is before.
pub record IsUnderSafe (h : History) (w : Write) : Type 0 where
  pub issued : IsIn w (writes h)
  pub over : Write
  pub over_issued : IsIn over (writes h)
  pub safe : is_safe h over ≡ true
  pub before : is_before h w.number over.number ≡ true
  pub from : over.off ≤ w.off
  pub to : w.off + length w.bytes ≤ over.off + length over.bytes

-- the first bytes of a file with a write over them
pub record IsOver (first : List ℕ) (w : Write) (now : List ℕ) : Type 0 where
  pub len : length now ≡ max (length first) (end_of w)
  pub bytes : (k : ℕ) → slice_index now k ≡ byte_over (slice_index first k) (w ∷ []) k

-- whether an event is the issue or the end of write n
abbrev pub is_of_write : ℕ → Event → Bool
is_of_write n (WriteIssued w) = w.number == n
is_of_write n (WriteEnded m) = m == n
is_of_write n (WriteFailed m) = m == n
is_of_write n (SyncIssued s range) = false
is_of_write n (SyncEnded s) = false
is_of_write n (SyncFailed s) = false

-- what happened, without write n
abbrev pub without_write : ℕ → History → History
without_write n h = filter (λ e. not (is_of_write n e)) h

-- a write that is folded takes no image away and adds none, whatever happens later
abbrev pub FoldChangesNone : Type 0
FoldChangesNone = (u : ℕ) (first over : List ℕ) (later h : History) (w : Write) (now : List ℕ)
    → 0 < u → IsLawful (later ++ h) → IsFoldable h w → IsOver first w over
    → IsImage u first (later ++ h) now ↔ IsImage u over (later ++ without_write w.number h) now

-- and so does one that is let go
abbrev pub LettingGoChangesNone : Type 0
LettingGoChangesNone = (u : ℕ) (first : List ℕ) (later h : History) (w : Write) (now : List ℕ)
    → 0 < u → IsLawful (later ++ h) → IsUnderSafe h w
    → IsImage u first (later ++ h) now ↔ IsImage u first (later ++ without_write w.number h) now

-- whether two writes write the same byte
abbrev pub overlap : Write → Write → Bool
overlap v w = nat_lt (max v.off w.off) (min (v.off + length v.bytes) (w.off + length w.bytes))

-- whether write m keeps write w from being folded
abbrev pub is_in_way : History → Write → Write → Bool
is_in_way h w m =
    goes_along h m.number w.number && not (is_safe h m)
    || (not (m.number == w.number) && (overlap m w && not (is_before h w.number m.number)))

-- whether write w, which was issued, can be folded
abbrev pub can_fold : History → Write → Bool
can_fold h w = is_safe h w && not (list_any (λ m. is_in_way h w m) (issued h))

-- whether write m, which is safe, lies over write w, which is before it
abbrev pub lies_over : History → Write → Write → Bool
lies_over h w m =
    is_safe h m && (is_before h w.number m.number && (nat_le m.off w.off && nat_le (w.off + length w.bytes) (m.off + length m.bytes)))

-- whether write w, which was issued, may be lost, and can be let go
abbrev pub can_let_go : History → Write → Bool
can_let_go h w = not (is_safe h w) && list_any (λ m. lies_over h w m) (issued h)

-- What becomes of a file's first bytes and of what happened to it when one write is folded.
pub record IsOneFolded (first made : List ℕ) (h now : History) : Type 0 where
  pub write : Write
  pub issued : IsIn write (issued h)
  pub can : can_fold h write ≡ true
  pub over : IsOver first write made
  pub without : now ≡ without_write write.number h

-- What becomes of what happened to a file when one write is let go.
pub record IsOneLetGo (h now : History) : Type 0 where
  pub write : Write
  pub issued : IsIn write (issued h)
  pub can : can_let_go h write ≡ true
  pub without : now ≡ without_write write.number h

-- A volume after some of its writes were folded, or let go: nothing that a caller can learn of it changes, but that those writes are gone.
pub record IsFoldedFrom (old new : Volume) : Type 0 where
  pub unit : new.unit ≡ old.unit
  pub next : new.next ≡ old.next
  -- whatever happens later, the same images may be left
  pub images : (later : History) (now : List ℕ) → IsLawful (later ++ old.history)
      → IsImage old.unit old.first (later ++ old.history) now
      ↔ IsImage new.unit new.first (later ++ new.history) now
  -- and the same writes are safe of those that are there
  pub safe : (later : History) (w : Write) → IsLawful (later ++ old.history)
      → IsIn w (writes (later ++ new.history))
      → is_safe (later ++ new.history) w ≡ is_safe (later ++ old.history) w
  pub lawful : (later : History) → IsLawful (later ++ old.history) → IsLawful (later ++ new.history)
  -- and the same is before the same
  pub before : (m w : Write) → IsIn m (writes new.history) → IsIn w (writes new.history)
      → is_before new.history m.number w.number ≡ is_before old.history m.number w.number
  -- and the same have ended
  pub have_ended : (w : Write) → IsIn w (writes new.history)
      → has_ended new.history w.number ≡ has_ended old.history w.number
  -- and the same are done
  pub are_done : (w : Write) → IsIn w (writes new.history)
      → is_done new.history w.number ≡ is_done old.history w.number
  -- no write has come, and each that is gone was safe, or lay under a safe one
  pub none_new : (w : Write) → IsIn w (writes new.history) → IsIn w (writes old.history)
  pub gone : (w : Write) → IsIn w (writes old.history)
      → IsIn w (writes new.history) ⊎ ((is_safe old.history w ≡ true) ⊎ IsUnderSafe old.history w)
  -- the same writes and syncs run
  pub writes_run : running_writes new.history ≡ running_writes old.history
  pub syncs_run : running_syncs new.history ≡ running_syncs old.history
  -- a read shows as many bytes
  pub shown : length_over (length new.first) (ended new.history)
      ≡ length_over (length old.first) (ended old.history)
