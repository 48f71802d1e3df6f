-- What each step on the table changes of what its seat knows, and what it tells. Of a step at the seat `before`, `found` is the word loaded or stored, and `st.word` the index in the table at which it stands: each load is named by its index, and of the loads only those of a tail or head count as looks.
use Rattle.std.specs.Prelude.{◌≡◌, ℕ, ◌+◌, ◌<◌, ◌≤◌, ◌==◌, true, List, [], ◌∷◌, ◌++◌, length, slice_index, if◌then◌else◌}
use Rattle.atomic_table.specs.Table.{Me, Step}
use Rattle.uring_entry.specs.IndexWords.{word_of}
use Rattle.uring_words.specs.Sides.{with_app, with_kernel, spent_with}
use Rattle.uring_words.specs.Submission.Calls.{AreWhole}
use Rattle.uring_words.specs.Places.{place_of}
use Rattle.uring_words.specs.Submission.Layout.{array_index, entry_index, head_index, tail_index, IsPosition}
use Rattle.uring_words.specs.Submission.Rule.{tail_seen}
use Rattle.uring_words.specs.declared.submission.view.AppSide.{AppSide}
use Rattle.uring_words.specs.declared.submission.view.KernelSide.{KernelSide}
use Rattle.uring_words.specs.declared.submission.view.Position.{Position}
use Rattle.uring_words.specs.declared.sides.View.{View}

abbrev pub Holder : Type 0
Holder = Me (Unit {0}) (View AppSide KernelSide)

-- The application's steps.

-- an entry word is stored
abbrev pub word_stored : AppSide → ℕ → AppSide
word_stored a word = record a { entry = a.entry ++ word ∷ [] }

-- an array word is stored, and with it the position is staged
abbrev pub mark_stored : AppSide → ℕ → AppSide
mark_stored a mark =
    record a { staged = a.staged ++ (record { mark = mark; entry = a.entry }) ∷ []; entry = [] }

-- the tail is stored, and with it all that is staged is published
abbrev pub tail_stored : AppSide → AppSide
tail_stored a = record a { published = a.published ++ a.staged; staged = [] }

-- the head is loaded, and this count stands there
abbrev pub head_loaded : AppSide → ℕ → AppSide
head_loaded a count = record a { head_seen = count; looks = a.looks + 1 }

abbrev pub StoresWord : Step (Unit {0}) → Holder → ℕ → Holder → Type 0
StoresWord st before found after = after ≡ with_app before (word_stored before.0.app found)

abbrev pub StoresMark : Step (Unit {0}) → Holder → ℕ → Holder → Type 0
StoresMark st before found after = after ≡ with_app before (mark_stored before.0.app found)

abbrev pub StoresTail : Step (Unit {0}) → Holder → ℕ → Holder → Type 0
StoresTail st before found after = after ≡ with_app before (tail_stored before.0.app)

abbrev pub LoadsHead : Step (Unit {0}) → Holder → ℕ → Holder → Type 0
LoadsHead st before found after =
    (count : ℕ) × (after ≡ with_app before (head_loaded before.0.app count))
    × (found ≡ word_of before.0.app.start count) × (before.0.app.head_seen ≤ count)
    × (count ≤ length before.0.app.published) × (st.word ≡ head_index before.0.app.size)

-- The dispatcher's steps.

-- the tail is loaded, and these positions more are known to be there
abbrev pub tail_loaded : KernelSide → List Position → KernelSide
tail_loaded d more = record d { known = d.known ++ more; looks = d.looks + 1 }

-- a word of the first known position is loaded: the position is copied once all its words are
abbrev pub loaded_of : KernelSide → List Position → KernelSide
loaded_of d [] = d
loaded_of d (p ∷ ps) =
    if d.loaded == length p.entry then record d { copied = d.copied ++ p ∷ []; known = ps; loaded = 0 } else
    record d { loaded = d.loaded + 1 }

abbrev pub word_loaded : KernelSide → KernelSide
word_loaded d = loaded_of d d.known

-- the head is stored: all that was copied is taken
abbrev pub head_stored : KernelSide → KernelSide
head_stored d = record d { taken = length d.copied }

-- What the load of the tail tells: whole calls, as many as the ring has room for; all that was published, if one seat has both sides.
pub record TailTold (before : View AppSide KernelSide) (found : ℕ) (more : List Position) : Type 0 where
  pub tail : found ≡ word_of before.kernel.start (tail_seen before.kernel + length more)
  pub whole : AreWhole ((before.kernel.copied ++ before.kernel.known) ++ more)
  pub few : tail_seen before.kernel + length more ≤ before.kernel.taken + before.kernel.size
  pub all : before.is_app ≡ true
      → before.app.published ≡ (before.kernel.copied ++ before.kernel.known) ++ more

abbrev pub LoadsTail : Step (Unit {0}) → Holder → ℕ → Holder → Type 0
LoadsTail st before found after = (more : List Position)
    × (after ≡ with_kernel before (tail_loaded before.0.kernel more)) × TailTold before.0 found more
    × (st.word ≡ tail_index before.0.kernel.size)

-- the first known position begins with the array word found
pub record MarkTold (before : KernelSide) (found : ℕ) : Type 0 where
  pub first : Position
  pub others : List Position
  pub known : before.known ≡ first ∷ others
  pub mark : found ≡ first.mark
  pub formed : IsPosition before.size (place_of before.start before.size (length before.copied)) first

abbrev pub LoadsMark : Step (Unit {0}) → Holder → ℕ → Holder → Type 0
LoadsMark st before found after =
    (after ≡ with_kernel before (word_loaded before.0.kernel)) × MarkTold before.0.kernel found
    × (st.word
    ≡ array_index before.0.kernel.size (place_of before.0.kernel.start before.0.kernel.size (length before.0.kernel.copied)))

-- the entry word found is the next of the first known position
abbrev pub LoadsWord : Step (Unit {0}) → Holder → ℕ → Holder → Type 0
LoadsWord st before found after =
    (after ≡ with_kernel before (word_loaded before.0.kernel))
    × ((p : Position) (ps : List Position) (k : ℕ) → before.0.kernel.known ≡ p ∷ ps → before.0.kernel.loaded ≡ k + 1 → k < length p.entry → (found ≡ slice_index p.entry k) × (st.word ≡ entry_index (place_of before.0.kernel.start before.0.kernel.size (length before.0.kernel.copied)) k))

abbrev pub StoresHead : Step (Unit {0}) → Holder → ℕ → Holder → Type 0
StoresHead st before found after = after ≡ with_kernel before (head_stored before.0.kernel)

-- what is left of the seat that is taken in
abbrev pub spent : View AppSide KernelSide
spent = spent_with
    (record { start = 0; size = 0; published = []; staged = []; entry = []; head_seen = 0; looks = 0 })
    (record { start = 0; size = 0; copied = []; known = []; loaded = 0; taken = 0; looks = 0 })
