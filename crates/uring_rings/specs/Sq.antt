-- Glue. What the submission ring keeps, and how that shows the lists of all that happened on it.
use Rattle.std.specs.Prelude.{◌≡◌, ℕ, ◌+◌, ◌%◌, ◌<◌, ◌≤◌, List, ◌++◌, length, map, Option, Some, IfSome, slice_get, slice_index}
use Rattle.std.specs.Int.{IsPowerOfTwo}
use Rattle.std.specs.Option.{option_map}
use Rattle.uring_entry.specs.Layout.{Sqe}
use Rattle.uring_entry.specs.Setup.{Setup}
use Rattle.uring_entry.specs.IndexWords.{word_of}
use Rattle.uring_entry.specs.Submission.{Submission, Place, Call, taken, staged, pending, dropped, entries_from, place_of}
use Rattle.uring_rings.specs.declared.sq.OpenCall.{OpenCall}

-- What the ring keeps: its size, the words of its tails and heads, the 32-bit count of dropped words, the open call, the table of entries, and the array of words that name them.
pub record Sq : Type 0 where
  pub size : ℕ
  pub tail : ℕ
  pub published : ℕ
  pub head : ℕ
  pub seen_head : ℕ
  pub dropped : ℕ
  pub call : Option OpenCall
  pub table : List Sqe
  pub array : List ℕ

-- what is so whatever happened: the sizes fit one another, and a call takes no more than its positions
pub record IsSq (size : ℕ) (table : List Sqe) (array : List ℕ) (call : Option OpenCall) : Type 0 where
  pub power : IsPowerOfTwo size
  pub limit : size ≤ 4096
  pub slots : length table ≡ size
  pub cells : length array ≡ size
  pub call_fits : IfSome call (λ call. (call.accepted ≤ call.taken) × (call.taken ≤ call.count))

-- every word that was published, and then the staged ones
abbrev pub words : Submission → List ℕ
words l = map (λ place. place.word) l.published ++ l.fresh

-- how far an open call has come
abbrev pub progress : Submission → Call → OpenCall
progress l call =
    record { count = call.count; taken = call.taken; accepted = length (entries_from l call.taken) }

-- The ring of the set-up g shows these lists.
pub record ShowsSubmission (g : Setup) (q : Sq) (l : Submission) : Type 0 where
  -- the words stand for the counts
  pub size : q.size ≡ g.sq
  pub tail : q.tail ≡ word_of g.start (staged l)
  pub published : q.published ≡ word_of g.start (length l.published)
  pub head : q.head ≡ word_of g.start (taken l)
  pub seen_head : q.seen_head ≡ word_of g.start l.seen_head
  pub dropped : q.dropped ≡ dropped l
  -- the counts are in order, and no more than the ring's size lies above the head last loaded
  pub seen_first : l.seen_head ≤ taken l
  pub taken_first : taken l ≤ length l.published
  pub few : staged l ≤ l.seen_head + g.sq
  -- the open call's positions are published
  pub call : q.call ≡ option_map (progress l) l.call
  pub call_fits : IfSome l.call (λ call. (call.taken ≤ call.count) × (call.count ≤ pending l))
  -- each slot, and each position above the head last loaded, is held
  pub slots : (s : ℕ) → s < g.sq → slice_get q.table s ≡ Some (l.content s)
  pub cells : (k : ℕ) → l.seen_head ≤ k → k < staged l
      → slice_index q.array (word_of g.start k % g.sq) ≡ slice_index (words l) k
  -- a position above the head last loaded has what its slot holds
  pub places : (k : ℕ) (p : Place) → l.seen_head ≤ k → slice_get l.published k ≡ Some p
      → p ≡ place_of g.sq l.content p.word

-- What always holds of the lists that a ring of this size shows: the head last loaded, the positions taken, those published and those staged are in this order, and no more than the size is staged above the first of them.
pub record IsOrderedSubmission (size : ℕ) (l : Submission) : Type 0 where
  pub seen : l.seen_head ≤ taken l
  pub taken : taken l ≤ length l.published
  pub few : staged l ≤ l.seen_head + size
