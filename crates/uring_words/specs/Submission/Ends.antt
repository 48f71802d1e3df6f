-- Glue. What callers see of an end of the submission ring's table, and what its fields are between two calls.
use Rattle.std.specs.Prelude.{◌≡◌, ℕ, ◌+◌, ◌<◌, ◌≤◌, Bool, true, false, List, [], ◌∷◌, ◌++◌, length, map}
use Rattle.atomic_table.specs.Seated.{TableId}
use Rattle.uring_entry.specs.IndexWords.{word_of}
use Rattle.uring_ports.specs.declared.item.Item.{Item}
use Rattle.uring_words.specs.Submission.Calls.{item_of, AreWhole, AllGoOn}
use Rattle.uring_words.specs.Submission.Layout.{closes, ends_call, word_count}
use Rattle.uring_words.specs.Submission.Rule.{stored, tail_seen}
use Rattle.uring_words.specs.Sides.{Hands, Fits}
use Rattle.uring_words.specs.declared.submission.reader.Copied.{Copied}
use Rattle.uring_words.specs.declared.submission.reader.Copied.TheVariants as copied
use Rattle.uring_words.specs.declared.submission.view.AppSide.{AppSide}
use Rattle.uring_words.specs.declared.submission.view.KernelSide.{KernelSide}
use Rattle.uring_words.specs.declared.submission.view.Position.{Position}
use Rattle.uring_words.specs.declared.sides.View.{View}

-- an end: its table, and what its seat knows
pub record End : Type 0 where
  pub table : TableId
  pub knows : View AppSide KernelSide

-- only what the application knows changed, to a
abbrev pub app_knows : End → AppSide → End
app_knows e a = record e { knows = record e.knows { app = a } }

-- only what the dispatcher knows changed, to d
abbrev pub kernel_knows : End → KernelSide → End
kernel_knows e d = record e { knows = record e.knows { kernel = d } }

-- The application's end, with no entry word of the next position stored: its seat of this table, what it knows, what it carries, the ring's size, and its index words of the head that it last saw and of the next place.
pub record IsWriter (seat table : TableId) (v : View AppSide KernelSide) (carried : Hands) (size head tail : ℕ) : Type 0 where
  pub fits : Fits seat table carried (word_count size) 4096 size v.app.size
  pub is_app : v.is_app ≡ true
  pub entry : v.app.entry ≡ []
  pub tail_word : tail ≡ word_of v.app.start (length (stored v.app))
  pub head_word : head ≡ word_of v.app.start v.app.head_seen
  pub below : v.app.head_seen ≤ length v.app.published
  pub room : length (stored v.app) ≤ v.app.head_seen + size

-- between two calls: nothing is staged
pub record WriterRests (a : AppSide) : Type 0 where
  pub staged : a.staged ≡ []
  pub whole : AreWhole a.published

-- It loaded the head, above which fewer than so many places are free.
pub record LooksInVain (before after : End) (count : ℕ) : Type 0 where
  pub looked : before.knows.app.looks < after.knows.app.looks
  pub room : after.knows.app.head_seen + after.knows.app.size
      < length after.knows.app.published + count

-- A position more was staged, which holds this item, and ends its call or not.
pub record StagesItem (before after : End) (x : Item) (last : Bool) : Type 0 where
  pub position : Position
  pub is : after
      ≡ app_knows before (record before.knows.app { staged = before.knows.app.staged ++ position ∷ [] })
  pub item : item_of position ≡ x
  pub ends : ends_call position.mark ≡ last
  pub open_ : closes position.mark ≡ false

-- Positions were staged that hold these items, and are one call.
pub record StagesCall (before after : End) (items : List Item) : Type 0 where
  pub front : List Position
  pub last : Position
  pub is : after ≡ app_knows before (record before.knows.app { staged = front ++ last ∷ [] })
  pub goes_on : AllGoOn front
  pub ends : ends_call last.mark ≡ true
  pub open_ : closes last.mark ≡ false
  pub holds : map item_of (front ++ last ∷ []) ≡ items

-- The dispatcher's end, with no word of the next position loaded, and its index words of the tail that it last saw and of the place that it copies next.
pub record IsReader (seat table : TableId) (v : View AppSide KernelSide) (carried : Hands) (size tail head : ℕ) : Type 0 where
  pub fits : Fits seat table carried (word_count size) 4096 size v.kernel.size
  pub is_kernel : v.is_kernel ≡ true
  pub loaded : v.kernel.loaded ≡ 0
  pub tail_word : tail ≡ word_of v.kernel.start (tail_seen v.kernel)
  pub head_word : head ≡ word_of v.kernel.start (length v.kernel.copied)
  pub few : length v.kernel.known ≤ size

-- between two calls: all that was copied is taken, which is whole calls, and what is known after it too
pub record ReaderRests (d : KernelSide) : Type 0 where
  pub taken : d.taken ≡ length d.copied
  pub known : AreWhole (d.copied ++ d.known)
  pub whole : AreWhole d.copied

-- what was copied is what this position holds
abbrev pub HoldsAs : Copied → Position → Type 0
HoldsAs copied.Close p = closes p.mark ≡ true
HoldsAs (copied.Last x) p = (closes p.mark ≡ false) × (ends_call p.mark ≡ true) × (item_of p ≡ x)
HoldsAs (copied.More x) p = (closes p.mark ≡ false) × (ends_call p.mark ≡ false) × (item_of p ≡ x)

-- the first known position, p, was copied
abbrev pub copied_one : KernelSide → Position → List Position → KernelSide
copied_one d p ps = record d { copied = d.copied ++ p ∷ []; known = ps; loaded = 0 }

-- The first known position was copied, and this is what it holds.
pub record CopiesOne (before after : End) (what : Copied) : Type 0 where
  pub position : Position
  pub others : List Position
  pub known : before.knows.kernel.known ≡ position ∷ others
  pub is : after
      ≡ kernel_knows before (record before.knows.kernel { copied = before.knows.kernel.copied ++ position ∷ []; known = others })
  pub holds : HoldsAs what position

-- It knew of no position that isn't copied, it loaded the tail, and it knows of none.
pub record FindsNone (before after : End) : Type 0 where
  pub before_none : length before.knows.kernel.known ≡ 0
  pub looked : before.knows.kernel.looks < after.knows.kernel.looks
  pub after_none : length after.knows.kernel.known ≡ 0

-- As a call is copied: these positions of it were, none of which ends it, and these are their items.
pub record InCall (before now : End) (copied_count : ℕ) (items : List Item) : Type 0 where
  pub part : List Position
  pub is : now
      ≡ kernel_knows before (record before.knows.kernel { copied = before.knows.kernel.copied ++ part; known = now.knows.kernel.known })
  pub rest : part ++ now.knows.kernel.known ≡ before.knows.kernel.known
  pub goes_on : AllGoOn part
  pub holds : map item_of part ≡ items
  pub many : length part ≡ copied_count

-- Known positions were copied, and what was copied is whole calls.
pub record Copies (before after : End) : Type 0 where
  pub is : after
      ≡ kernel_knows before (record before.knows.kernel { copied = after.knows.kernel.copied; known = after.knows.kernel.known })
  pub same : after.knows.kernel.copied ++ after.knows.kernel.known
      ≡ before.knows.kernel.copied ++ before.knows.kernel.known
  pub whole : AreWhole after.knows.kernel.copied
