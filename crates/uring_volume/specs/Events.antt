-- What happened to one file: its writes and its syncs, as they were issued and as they ended, which is our own structure. Which writes are safe: io_uring_enter(2), IORING_OP_FSYNC, and fsync(2).
use Rattle.std.specs.Prelude.{ℕ, ◌+◌, Bool, true, false, not, ◌&&◌, ◌||◌, ◌==◌, nat_le, nat_lt, min, max, List, [], ◌∷◌, length}
use Rattle.uring_volume.specs.Writes.{Write}
use Rattle.uring_volume.specs.declared.event.SyncRange.{SyncRange}
use Rattle.uring_volume.specs.declared.event.SyncRange.TheVariants.{Whole, Part}
use Rattle.uring_volume.specs.declared.event.Event.{Event}
use Rattle.uring_volume.specs.declared.event.Event.TheVariants.{WriteIssued, WriteEnded, WriteFailed, SyncIssued, SyncEnded, SyncFailed}

-- the events of a file, the newest first
abbrev pub History : Type 0
History = List Event

-- the writes that were issued, the newest first
abbrev pub writes : History → List Write
writes [] = []
writes (WriteIssued w ∷ earlier) = w ∷ writes earlier
writes (_ ∷ earlier) = writes earlier

-- whether write n has ended with success
abbrev pub has_ended : History → ℕ → Bool
has_ended [] n = false
has_ended (WriteEnded m ∷ earlier) n = m == n || has_ended earlier n
has_ended (_ ∷ earlier) n = has_ended earlier n

-- whether write n is done: it has ended with success, or failed
abbrev pub is_done : History → ℕ → Bool
is_done [] n = false
is_done (WriteEnded m ∷ earlier) n = m == n || is_done earlier n
is_done (WriteFailed m ∷ earlier) n = m == n || is_done earlier n
is_done (_ ∷ earlier) n = is_done earlier n

-- whether write m is before write n: it was done when n was issued. Our own rule
abbrev pub is_before : History → ℕ → ℕ → Bool
is_before [] m n = false
is_before (WriteIssued w ∷ earlier) m n =
    w.number == n && is_done earlier m || is_before earlier m n
is_before (_ ∷ earlier) m n = is_before earlier m n

-- whether write m goes along with write n: it had ended, and not failed, when n was issued. Our own rule
abbrev pub goes_along : History → ℕ → ℕ → Bool
goes_along [] m n = false
goes_along (WriteIssued w ∷ earlier) m n =
    w.number == n && has_ended earlier m || goes_along earlier m n
goes_along (_ ∷ earlier) m n = goes_along earlier m n

-- whether all bytes of a write lie in the range of a sync. io_uring_prep_fsync(3)
abbrev pub lies_in : SyncRange → Write → Bool
lies_in Whole w = true
lies_in (Part off len) w = nat_le off w.off && nat_le (w.off + length w.bytes) (off + len)

-- whether a byte of a write lies in the range of a sync. io_uring_prep_fsync(3)
abbrev pub meets : SyncRange → Write → Bool
meets Whole w = true
meets (Part off len) w = nat_lt (max off w.off) (min (off + len) (w.off + length w.bytes))

-- whether sync s covers write w: w had ended when s was issued, and lies in its range whole. io_uring_enter(2), IORING_OP_FSYNC
abbrev pub is_covered : History → ℕ → Write → Bool
is_covered [] s w = false
is_covered (SyncIssued t range ∷ earlier) s w =
    t == s && has_ended earlier w.number && lies_in range w || is_covered earlier s w
is_covered (_ ∷ earlier) s w = is_covered earlier s w

-- whether sync s reaches write w: w had ended when s was issued, and has a byte in its range. io_uring_enter(2), IORING_OP_FSYNC
abbrev pub is_reached : History → ℕ → Write → Bool
is_reached [] s w = false
is_reached (SyncIssued t range ∷ earlier) s w =
    t == s && has_ended earlier w.number && meets range w || is_reached earlier s w
is_reached (_ ∷ earlier) s w = is_reached earlier s w

-- whether a sync that reaches write w has failed. fsync(2), ERRORS
abbrev pub is_given_up : History → Write → Bool
is_given_up [] w = false
is_given_up (SyncFailed s ∷ earlier) w = is_reached earlier s w || is_given_up earlier w
is_given_up (_ ∷ earlier) w = is_given_up earlier w

-- whether write w is safe: a sync that covers it has ended with success, and none that reaches it had failed by then. fsync(2)
abbrev pub is_safe : History → Write → Bool
is_safe [] w = false
is_safe (SyncEnded s ∷ earlier) w =
    is_covered earlier s w && not (is_given_up earlier w) || is_safe earlier w
is_safe (_ ∷ earlier) w = is_safe earlier w
