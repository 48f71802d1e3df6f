-- The completion ring and its overflow list as lists of all that ever happened to them. io_uring(7), Reading completion events; io_uring_setup(2), IORING_FEAT_NODROP, for the overflow list, which is flushed by a step of its own: our own rule.
use Rattle.std.specs.Prelude.{ℕ, ◌+◌, ◌-◌, ℤ, Bool, ◌&&◌, ◌==◌, nat_lt, List, [], ◌∷◌, ◌++◌, length, drop, min, Option, None, slice_get, if◌then◌else◌}
use Rattle.uring_entry.specs.Layout.{Cqe, Sqe, user_data_of}
use Rattle.uring_entry.specs.Success.{posts_completion}

-- All that happened on the completion ring.
pub record Completions : Type 0 where
  -- every completion ever posted, in order
  pub posted : List Cqe
  -- how many of them were put into the ring; the rest waits in the overflow list
  pub put : ℕ
  -- every completion that the application reaped, in order
  pub reaped : List Cqe
  -- the head that the application last stored, as a count
  pub head : ℕ
  -- the head that the dispatcher last loaded, as a count
  pub seen_head : ℕ
  -- the tail that the application last loaded, as a count
  pub seen_tail : ℕ

-- nothing was posted
abbrev pub no_completion : Completions
no_completion = record { posted = []; put = 0; reaped = []; head = 0; seen_head = 0; seen_tail = 0 }

-- whether a completion goes into a ring of this size: none waits in the overflow list, and there is room above the head last loaded. io_uring_setup(2), IORING_FEAT_NODROP; that the head counts as last loaded is our own rule
abbrev pub has_room : ℕ → Completions → Bool
has_room size l = (l.put == length l.posted) && nat_lt (l.put - l.seen_head) size

-- how many are put once the head is loaded: as many as fit above it
abbrev pub put_by_flush : ℕ → Completions → ℕ
put_by_flush size l = min (length l.posted) (l.head + size)

-- the next to be reaped, if the tail last loaded shows one
abbrev pub next_to_reap : Completions → Option Cqe
next_to_reap l =
    if length l.reaped == l.seen_tail then None else slice_get l.posted (length l.reaped)

-- the posted ones that aren't reaped
abbrev pub unreaped : Completions → List Cqe
unreaped l = drop (length l.reaped) l.posted

-- what each event makes of it

-- a completion is posted
abbrev pub with_posted : ℕ → Completions → Cqe → Completions
with_posted size l completion =
    record l { posted = l.posted ++ completion ∷ []; put = if has_room size l then l.put + 1 else l.put }

-- the completion of a request of this entry that ended with this result and these bytes
abbrev pub completion_for : Sqe → ℤ → List ℕ → Cqe
completion_for entry res bytes = record {
  user_data = user_data_of entry;
  res = res;
  payload = bytes;
}

-- the end of a request with this entry: its completion is posted, unless it is to be skipped. io_uring(7), DESCRIPTION, and io_uring_enter(2), IOSQE_CQE_SKIP_SUCCESS
abbrev pub with_end : ℕ → Completions → Sqe → ℤ → List ℕ → Completions
with_end size l entry res bytes =
    if posts_completion entry res then with_posted size l (completion_for entry res bytes) else l

-- the dispatcher loads the head, and moves completions from the overflow list into the ring
abbrev pub with_flushed : ℕ → Completions → Completions
with_flushed size l = record l { put = put_by_flush size l; seen_head = l.head }

-- the application loads the tail
abbrev pub with_tail_loaded : Completions → Completions
with_tail_loaded l = record l { seen_tail = l.put }

-- the application reaps a completion
abbrev pub with_reaped : Completions → Cqe → Completions
with_reaped l completion = record l { reaped = l.reaped ++ completion ∷ [] }

-- the application stores the head
abbrev pub with_head_stored : Completions → Completions
with_head_stored l = record l { head = length l.reaped }
