-- Glue. What the completion ring keeps, and how that shows the lists of all that happened on it.
use Rattle.std.specs.Prelude.{◌≡◌, ℕ, ◌+◌, ◌%◌, ◌^◌, ◌<◌, ◌≤◌, List, length, take, drop, Option, Some, None, slice_index_or}
use Rattle.std.specs.Int.{IsPowerOfTwo}
use Rattle.uring_entry.specs.Layout.{Cqe}
use Rattle.uring_entry.specs.Setup.{Setup}
use Rattle.uring_entry.specs.IndexWords.{word_of}
use Rattle.uring_entry.specs.Completions.{Completions, with_reaped}

-- What the ring keeps: its size; the words of its tail, of the head that the application stored, of the head and the tail that the two sides last loaded, and of the next position to be reaped; how many completions were posted and reaped, which wrap at 64 bits; how many posts are promised; how many more completions the overflow list has memory for; the cells; and the overflow list.
pub record Cq : Type 0 where
  pub size : ℕ
  pub tail : ℕ
  pub head : ℕ
  pub seen_head : ℕ
  pub seen_tail : ℕ
  pub next : ℕ
  pub posted : ℕ
  pub reaped : ℕ
  pub room : ℕ
  pub spare : ℕ
  pub cells : List Cqe
  pub overflow : List Cqe

-- what is so whatever happened: the sizes fit one another
pub record IsCq (size : ℕ) (cells : List Cqe) : Type 0 where
  pub power : IsPowerOfTwo size
  pub limit : size ≤ 8192
  pub all_cells : length cells ≡ size

-- The ring of the set-up g shows these lists.
pub record ShowsCompletions (g : Setup) (q : Cq) (l : Completions) : Type 0 where
  -- the words and numbers stand for the counts
  pub size : q.size ≡ g.cq
  pub tail : q.tail ≡ word_of g.start l.put
  pub head : q.head ≡ word_of g.start l.head
  pub seen_head : q.seen_head ≡ word_of g.start l.seen_head
  pub seen_tail : q.seen_tail ≡ word_of g.start l.seen_tail
  pub next : q.next ≡ word_of g.start (length l.reaped)
  pub posted : q.posted ≡ length l.posted % 2 ^ 64
  pub reaped : q.reaped ≡ length l.reaped % 2 ^ 64
  -- the counts are in order, and no more than the ring's size was put above the head last loaded
  pub seen_head_first : l.seen_head ≤ l.head
  pub head_first : l.head ≤ length l.reaped
  pub reaped_first : length l.reaped ≤ l.seen_tail
  pub seen_tail_first : l.seen_tail ≤ l.put
  pub put_first : l.put ≤ length l.posted
  pub few : l.put ≤ l.seen_head + g.cq
  -- what was reaped begins what was posted; between reaped and put it stands in the ring, and the rest waits
  pub in_order : l.reaped ≡ take (length l.reaped) l.posted
  pub cells : (k : ℕ) (d : Cqe) → length l.reaped ≤ k → k < l.put
      → slice_index_or q.cells (word_of g.start k % g.cq) d ≡ slice_index_or l.posted k d
  pub waiting : q.overflow ≡ drop l.put l.posted

-- What every call keeps of the memory: there is enough for the posts that are promised, and none is given back. What waits and what there is memory for make up the memory of the overflow list. Our own rule
pub record KeepsMemory (old new : Cq) : Type 0 where
  pub promised : new.room ≤ new.spare
  pub kept : length old.overflow + old.spare ≤ length new.overflow + new.spare

-- What always holds of the lists that a ring of this size shows: what was reaped begins what was posted, no more was reaped than put nor put than posted, and no more than the size was put above the head that the application stored.
pub record IsOrderedCompletions (size : ℕ) (l : Completions) : Type 0 where
  pub begins : l.reaped ≡ take (length l.reaped) l.posted
  pub reaped : length l.reaped ≤ l.put
  pub put : l.put ≤ length l.posted
  pub few : l.put ≤ l.head + size

-- the lists after a reap that answered this
abbrev pub after_reap : Completions → Option Cqe → Completions
after_reap l (Some completion) = with_reaped l completion
after_reap l None = l
