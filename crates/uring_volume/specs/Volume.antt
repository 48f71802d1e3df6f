-- A volume: one file with what happened to it, and what its calls make of it. All of it is our own structure.
use Rattle.std.specs.Prelude.{◌≡◌, ℕ, ◌+◌, ◌<◌, Bool, true, not, ◌||◌, ◌==◌, List, [], ◌∷◌, ◌++◌, length, slice_index}
use Rattle.std.specs.List.{list_any, filter}
use Rattle.uring_volume.specs.Writes.{Write}
use Rattle.uring_volume.specs.declared.event.SyncRange.{SyncRange}
use Rattle.uring_volume.specs.declared.event.Event.{Event}
use Rattle.uring_volume.specs.declared.event.Event.TheVariants.{WriteIssued, WriteEnded, WriteFailed, SyncIssued, SyncEnded, SyncFailed}
use Rattle.uring_volume.specs.Events.{History, writes, is_done}
use Rattle.uring_volume.specs.Images.{IsIn, byte_over, length_over}
use Rattle.uring_volume.specs.Choices.{IsLawful, issued, named}

pub record Volume : Type 0 where
  -- how many bytes a unit has
  pub unit : ℕ
  -- the bytes that the file began with
  pub first : List ℕ
  -- what has happened since
  pub history : History
  -- the number that the next write or sync gets
  pub next : ℕ

-- these numbers without n
abbrev pub but : ℕ → List ℕ → List ℕ
but n numbers = filter (λ m. not (m == n)) numbers

-- whether n is one of these numbers
abbrev pub is_one_of : ℕ → List ℕ → Bool
is_one_of n numbers = list_any (λ m. m == n) numbers

-- the numbers of the writes that run: they were issued and aren't done
abbrev pub running_writes : History → List ℕ
running_writes [] = []
running_writes (WriteIssued w ∷ earlier) = running_writes earlier ++ w.number ∷ []
running_writes (WriteEnded n ∷ earlier) = but n (running_writes earlier)
running_writes (WriteFailed n ∷ earlier) = but n (running_writes earlier)
running_writes (_ ∷ earlier) = running_writes earlier

-- the syncs that run: they were issued, and have ended neither with success nor with an error
abbrev pub running_syncs : History → List ℕ
running_syncs [] = []
running_syncs (SyncIssued s range ∷ earlier) = running_syncs earlier ++ s ∷ []
running_syncs (SyncEnded s ∷ earlier) = but s (running_syncs earlier)
running_syncs (SyncFailed s ∷ earlier) = but s (running_syncs earlier)
running_syncs (_ ∷ earlier) = running_syncs earlier

-- whether write n is there, or sync n runs
abbrev pub is_known : ℕ → History → Bool
is_known n h = list_any (λ w. w.number == n) (issued h) || is_one_of n (running_syncs h)

-- the writes that have ended with success, in the order of their ends
abbrev pub ended : History → List Write
ended [] = []
ended (WriteEnded n ∷ earlier) = ended earlier ++ named n (issued earlier)
ended (_ ∷ earlier) = ended earlier

-- What a read of the whole file shows: the first bytes with the writes over them that have ended with success, in the order of their ends. Our own rule
pub record IsShown (first : List ℕ) (h : History) (now : List ℕ) : Type 0 where
  pub len : length now ≡ length_over (length first) (ended h)
  pub bytes : (k : ℕ) → k < length now
      → slice_index now k ≡ byte_over (slice_index first k) (ended h) k

-- a volume with one event more
abbrev pub with_event : Event → Volume → Volume
with_event e v = record v { history = e ∷ v.history }

-- a volume with a write more, which gets the next number
abbrev pub with_write : ℕ → List ℕ → Volume → Volume
with_write off bytes v = record v {
  history = WriteIssued (record { number = v.next; off = off; bytes = bytes }) ∷ v.history;
  next = v.next + 1;
}

-- a volume with a sync of a range more, which gets the next number
abbrev pub with_sync : SyncRange → Volume → Volume
with_sync range v =
    record v { history = SyncIssued v.next range ∷ v.history; next = v.next + 1 }

-- The numbers so far lie from 1 up to the next one.
pub record IsNumbered (next : ℕ) (h : History) : Type 0 where
  pub some : 0 < next
  pub positive : (w : Write) → IsIn w (writes h) → 0 < w.number
  pub issued : (w : Write) → IsIn w (writes h) → w.number < next
  pub done : (n : ℕ) → is_done h n ≡ true → n < next
  pub running : (n : ℕ) → is_one_of n (running_writes h) ≡ true → n < next

-- how many elements of one list a write or a sync asks for as it begins: one for each event so far, for the end of each that runs, and for its own two events
abbrev pub elements_to_begin : Volume → ℕ
elements_to_begin v =
    length v.history + length (running_writes v.history) + length (running_syncs v.history) + 2

-- What holds of each volume.
pub record IsSound (v : Volume) : Type 0 where
  pub unit : 0 < v.unit
  pub lawful : IsLawful v.history
  pub numbered : IsNumbered v.next v.history

-- A volume's lists of what runs are those of its history.
pub record IsHeld (v : Volume) (write_list sync_list : List ℕ) : Type 0 where
  pub sound : IsSound v
  pub writes : write_list ≡ running_writes v.history
  pub syncs : sync_list ≡ running_syncs v.history
