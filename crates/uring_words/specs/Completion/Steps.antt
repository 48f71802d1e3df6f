-- What each step on the completion ring's table changes of what its seat knows, and what it tells. Of a step at the seat `before`, `found` is the word loaded or stored, and `st.word` the index in the table at which it stands: each load is named by its index, and of the loads only those of a tail or head count as looks.
use Rattle.std.specs.Prelude.{◌≡◌, ℕ, ◌+◌, ◌^◌, ◌<◌, ◌≤◌, ◌==◌, true, List, [], ◌∷◌, ◌++◌, length, slice_index, if◌then◌else◌}
use Rattle.atomic_table.specs.Table.{Me, Step}
use Rattle.uring_entry.specs.IndexWords.{word_of}
use Rattle.uring_ports.specs.Dropped.{WereHad}
use Rattle.uring_words.specs.Completion.Layout.{cell_index, dropped_index, head_index, tail_index}
use Rattle.uring_words.specs.Completion.Rule.{tail_seen}
use Rattle.uring_words.specs.Places.{place_of}
use Rattle.uring_words.specs.Sides.{with_app, with_kernel, spent_with}
use Rattle.uring_words.specs.declared.completion.view.AppSide.{AppSide}
use Rattle.uring_words.specs.declared.completion.view.KernelSide.{KernelSide}
use Rattle.uring_words.specs.declared.sides.View.{View}

abbrev pub Holder : Type 0
Holder = Me (Unit {0}) (View AppSide KernelSide)

-- The dispatcher's steps.

-- a cell word is stored
abbrev pub word_stored : KernelSide → ℕ → KernelSide
word_stored d word = record d { cell = d.cell ++ word ∷ [] }

-- the tail is stored, and with it the completion of the next cell is put
abbrev pub tail_stored : KernelSide → KernelSide
tail_stored d = record d { put = d.put ++ d.cell ∷ []; cell = [] }

-- the dropped word is stored
abbrev pub dropped_stored : KernelSide → ℕ → KernelSide
dropped_stored d word = record d { dropped = d.dropped ++ word ∷ [] }

-- the head is loaded, and this count stands there
abbrev pub head_loaded : KernelSide → ℕ → KernelSide
head_loaded d count = record d { head_seen = count; looks = d.looks + 1 }

abbrev pub StoresWord : Step (Unit {0}) → Holder → ℕ → Holder → Type 0
StoresWord st before found after = after ≡ with_kernel before (word_stored before.0.kernel found)

abbrev pub StoresTail : Step (Unit {0}) → Holder → ℕ → Holder → Type 0
StoresTail st before found after = after ≡ with_kernel before (tail_stored before.0.kernel)

abbrev pub StoresDropped : Step (Unit {0}) → Holder → ℕ → Holder → Type 0
StoresDropped st before found after =
    after ≡ with_kernel before (dropped_stored before.0.kernel found)

abbrev pub LoadsHead : Step (Unit {0}) → Holder → ℕ → Holder → Type 0
LoadsHead st before found after =
    (count : ℕ) × (after ≡ with_kernel before (head_loaded before.0.kernel count))
    × (found ≡ word_of before.0.kernel.start count) × (before.0.kernel.head_seen ≤ count)
    × (count ≤ length before.0.kernel.put) × (st.word ≡ head_index before.0.kernel.size)

-- The application's steps.

-- the tail is loaded, and these completions more are known to be there
abbrev pub tail_loaded : AppSide → List (List ℕ) → AppSide
tail_loaded a more = record a { known = a.known ++ more; looks = a.looks + 1 }

-- a word of the first known completion is loaded: the completion is copied once all its ten words are
abbrev pub loaded_of : AppSide → List (List ℕ) → AppSide
loaded_of a [] = a
loaded_of a (c ∷ cs) =
    if a.loaded + 1 == 10 then record a { copied = a.copied ++ c ∷ []; known = cs; loaded = 0 } else
    record a { loaded = a.loaded + 1 }

abbrev pub word_loaded : AppSide → AppSide
word_loaded a = loaded_of a a.known

-- the head is stored: all that was copied is got, and its cells may be written again
abbrev pub head_stored : AppSide → AppSide
head_stored a = record a { got = length a.copied }

-- the dropped word is loaded
abbrev pub dropped_loaded : AppSide → ℕ → AppSide
dropped_loaded a word = record a { dropped = a.dropped ++ word ∷ [] }

-- What the load of the tail tells: no more completions than the ring has cells. If one seat has both sides: all that were put, and that the dropped words loaded are, in order, words that were had.
pub record TailTold (before : View AppSide KernelSide) (found : ℕ) (more : List (List ℕ)) : Type 0 where
  pub tail : found ≡ word_of before.app.start (tail_seen before.app + length more)
  pub few : tail_seen before.app + length more ≤ before.app.got + before.app.size
  pub all : before.is_kernel ≡ true
      → before.kernel.put ≡ (before.app.copied ++ before.app.known) ++ more
  pub dropped : before.is_kernel ≡ true → WereHad (0 ∷ before.kernel.dropped) before.app.dropped

abbrev pub LoadsTail : Step (Unit {0}) → Holder → ℕ → Holder → Type 0
LoadsTail st before found after = (more : List (List ℕ))
    × (after ≡ with_app before (tail_loaded before.0.app more)) × TailTold before.0 found more
    × (st.word ≡ tail_index before.0.app.size)

-- the word found is the next of the first known completion, which has ten words
abbrev pub LoadsWord : Step (Unit {0}) → Holder → ℕ → Holder → Type 0
LoadsWord st before found after =
    (after ≡ with_app before (word_loaded before.0.app))
    × ((c : List ℕ) (cs : List (List ℕ)) (k : ℕ) → before.0.app.known ≡ c ∷ cs → before.0.app.loaded ≡ k → k < 10 → (found ≡ slice_index c k) × (length c ≡ 10) × (st.word ≡ cell_index (place_of before.0.app.start before.0.app.size (length before.0.app.copied)) k))

abbrev pub StoresHead : Step (Unit {0}) → Holder → ℕ → Holder → Type 0
StoresHead st before found after = after ≡ with_app before (head_stored before.0.app)

abbrev pub LoadsDropped : Step (Unit {0}) → Holder → ℕ → Holder → Type 0
LoadsDropped st before found after =
    (after ≡ with_app before (dropped_loaded before.0.app found)) × (found < 2 ^ 32)
    × (st.word ≡ dropped_index before.0.app.size)

-- what is left of the seat that is taken in
abbrev pub spent : View AppSide KernelSide
spent = spent_with
    (record { start = 0; size = 0; copied = []; known = []; loaded = 0; got = 0; looks = 0; dropped = [] })
    (record { start = 0; size = 0; put = []; cell = []; head_seen = 0; looks = 0; dropped = [] })
