-- The submission ring as lists of all that ever happened to it. io_uring(7), Submitting I/O requests; what is refused, and that a call goes on after a word that names no slot, is our own rule.
use Rattle.std.specs.Prelude.{ℕ, ◌+◌, ◌-◌, ◌%◌, ◌^◌, ◌≤◌, Bool, ◌&&◌, ◌==◌, nat_lt, List, [], ◌∷◌, ◌++◌, length, take, drop, map, sum, count_by, Option, Some, None, is_none, if◌then◌else◌, min}
use Rattle.std.specs.List.{list_any, filter_map}
use Rattle.std.specs.Option.{option_map}
use Rattle.uring_entry.specs.Setup.{Setup}
use Rattle.uring_entry.specs.Layout.{Sqe, zero_entry}
use Rattle.uring_entry.specs.Preparation.{is_faulty}

-- A published position: the word of the index array, and the entry of the slot that the word names, as it was when the position was published: our own rule. A word that names no slot has none.
pub record Place : Type 0 where
  pub word : ℕ
  pub entry : Option Sqe

-- A submission call: how many positions it takes, and how many of them were taken. A call that stops takes no more than it has.
pub record Call : Type 0 where
  pub count : ℕ
  pub taken : ℕ

-- All that happened on the submission ring.
pub record Submission : Type 0 where
  -- what each slot of the entry table holds
  pub content : ℕ → Sqe
  -- every position that was ever published, in order
  pub published : List Place
  -- the words staged since, in order
  pub fresh : List ℕ
  -- the call that is open
  pub call : Option Call
  -- how many positions each call took that is closed, in order
  pub calls : List ℕ
  -- the head that the application last loaded, as a count
  pub seen_head : ℕ

-- nothing has happened: every slot holds the zero entry
abbrev pub no_submission : Submission
no_submission =
    record {
      content = λ slot. zero_entry;
      published = [];
      fresh = [];
      call = None;
      calls = [];
      seen_head = 0;
    }

-- Counts and lists that follow from it.

-- the positions that closed calls took
abbrev pub taken : Submission → ℕ
taken l = sum l.calls

-- the positions staged or published
abbrev pub staged : Submission → ℕ
staged l = length l.published + length l.fresh

-- the positions published and not taken by a closed call
abbrev pub pending : Submission → ℕ
pending l = length l.published - taken l

-- the entries of places that have one, in order
abbrev pub entries_of : List Place → List Sqe
entries_of places = filter_map (λ place. place.entry) places

-- the places that have none
abbrev pub dropped_in : List Place → ℕ
dropped_in places = count_by (λ place. is_none place.entry) places

-- the entries accepted so far
abbrev pub accepted : Submission → List Sqe
accepted l = entries_of (take (taken l) l.published)

-- the count of dropped words, which wraps at 32 bits. io_uring_setup(2), on dropped
abbrev pub dropped : Submission → ℕ
dropped l = dropped_in (take (taken l) l.published) % 2 ^ 32

-- the places that the next count positions have
abbrev pub places_from : Submission → ℕ → List Place
places_from l count = take count (drop (taken l) l.published)

-- the entries that they have
abbrev pub entries_from : Submission → ℕ → List Sqe
entries_from l count = entries_of (places_from l count)

-- What a published position holds: the entry of the slot that its word names, or a word that names none.
pub data Published : Type 0 where
  with_entry : Sqe → Published
  bad_word : ℕ → Published

-- a word, with its entry if it names a slot
abbrev pub item_of : ℕ → Option Sqe → Published
item_of word (Some entry) = with_entry entry
item_of word None = bad_word word

-- the published items, in order
abbrev pub published_items : Submission → List Published
published_items l = map (λ place. item_of place.word place.entry) l.published

-- an item of a ring of this size: a bad word isn't below the size. Our own rule
abbrev pub IsItem : ℕ → Published → Type 0
IsItem size (with_entry entry) = Unit {0}
IsItem size (bad_word word) = size ≤ word

-- whether a slot may not be filled: a published position that the application doesn't know to be taken names it. Our own rule
abbrev pub is_busy : Submission → ℕ → Bool
is_busy l slot = list_any (λ place. place.word == slot) (drop l.seen_head l.published)

-- whether no further position may be staged: as many as the ring has entries are staged or published above the head last loaded. Our own rule
abbrev pub is_full : ℕ → Submission → Bool
is_full size l = staged l - l.seen_head == size

-- how many positions a call asked for n takes. io_uring_enter(2), to_submit and RETURN VALUE
abbrev pub call_length : Submission → ℕ → ℕ
call_length l n = min n (pending l)

-- whether a call that takes this entry stops after it: calls of the ring stop, and the entry has a fault. io_uring_setup(2), IORING_SETUP_SUBMIT_ALL; that an entry with a link flag is no exception is our own rule
abbrev pub stops_at : Setup → Sqe → Bool
stops_at g e = g.stops && is_faulty e

-- what each event makes of it

-- an entry is written to a slot
abbrev pub with_filled : Submission → ℕ → Sqe → Submission
with_filled l slot entry = record l { content = λ s. if s == slot then entry else l.content s }

-- a word is staged
abbrev pub with_staged : Submission → ℕ → Submission
with_staged l word = record l { fresh = l.fresh ++ word ∷ [] }

-- the place of a word when it is published, in a ring of this size
abbrev pub place_of : ℕ → (ℕ → Sqe) → ℕ → Place
place_of size content word = record {
  word = word;
  entry = if nat_lt word size then Some (content word) else None;
}

-- the tail is stored: everything staged is published. io_uring(7), Submitting I/O requests
abbrev pub with_published : ℕ → Submission → Submission
with_published size l =
    record l { published = l.published ++ map (place_of size l.content) l.fresh; fresh = [] }

-- the application loads the head
abbrev pub with_head_loaded : Submission → Submission
with_head_loaded l = record l { seen_head = taken l }

-- a call asked for n positions opens
abbrev pub with_begun : Submission → ℕ → Submission
with_begun l n = record l { call = Some (record { count = call_length l n; taken = 0 }) }

-- the open call takes its next position
abbrev pub with_taken : Submission → Call → Submission
with_taken l call = record l { call = Some (record call { taken = call.taken + 1 }) }

-- a call, which takes no further position if it stops
abbrev pub stopped : Bool → Call → Call
stopped stops call = record call { count = if stops then call.taken else call.count }

-- the open call stops, if this holds, and leaves the rest of its positions to later calls. io_uring_setup(2), IORING_SETUP_SUBMIT_ALL
abbrev pub with_stopped : Bool → Submission → Submission
with_stopped stops l = record l { call = option_map (stopped stops) l.call }

-- the open call closes, with all its positions taken
abbrev pub with_closed : Submission → Call → Submission
with_closed l call = record l { call = None; calls = l.calls ++ call.count ∷ [] }
