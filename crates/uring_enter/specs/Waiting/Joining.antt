-- That a sleep asks each descriptor once for all that is asked of it. poll(2): the kernel takes no more rows than a process may have descriptors. That a sleep does so is our own rule.
use Rattle.std.specs.Prelude.{◌≡◌, ◌<◌, ◌≤◌, ℕ, Bool, ◌&&◌, ◌||◌, ◌==◌, List, length, slice_index_or}
use Rattle.std.specs.List.{AllPairs, list_any}
use Rattle.std.specs.List.Sorted.{IsNonDecreasingBy}
use Rattle.std.specs.Int.{bit_at}
use Rattle.std.specs.Int.RustNames.{bit_or}
use Rattle.uring_enter.specs.declared.waiting.joining.PollRow.{PollRow}

-- rows ask for an event of a descriptor, which is a bit: one of them does
abbrev pub asks : (fd event : ℕ) → List PollRow → Bool
asks fd event rows = list_any (λ row. row.fd == fd && bit_at row.events event == 1) rows

-- they poll it, be it for nothing but what poll(2) tells unasked, as POLLHUP: one of them does
abbrev pub polls : (fd : ℕ) → List PollRow → Bool
polls fd rows = list_any (λ row. row.fd == fd) rows

-- each descriptor has one row: each row is of a higher one than those before
abbrev pub EachOnce : List PollRow → Type 0
EachOnce rows = AllPairs (λ row later. row.fd < later.fd) rows

-- two rows of one descriptor as one, which asks for the events of both
abbrev pub joined : PollRow → PollRow → PollRow
joined row other = record { fd = row.fd; events = bit_or row.events other.events; found = row.found }

-- what is so of two rows as one exactly if it is of either; glue
abbrev pub Joins : (PollRow → Bool) → Type 0
Joins p = (row other : PollRow) → row.fd ≡ other.fd → p (joined row other) ≡ (p row || p other)

-- rows of one descriptor stand next to each other; glue
abbrev pub Rises : List PollRow → Type 0
Rises rows = IsNonDecreasingBy (λ row. row.fd) rows

-- none of them is past this descriptor; glue
abbrev pub AreUpTo : ℕ → List PollRow → Type 0
AreUpTo fd rows = (k : ℕ) (d : PollRow) → k < length rows → (slice_index_or rows k d).fd ≤ fd
