-- Glue. What callers see of an end of the completion ring's table, and what its fields are between two calls.
use Rattle.std.specs.Prelude.{◌≡◌, ℕ, ◌+◌, ◌<◌, ◌≤◌, true, List, [], ◌∷◌, ◌++◌, length, map}
use Rattle.atomic_table.specs.Seated.{TableId}
use Rattle.uring_entry.specs.IndexWords.{word_of}
use Rattle.uring_entry.specs.Layout.{Cqe, completion_of}
use Rattle.uring_words.specs.Completion.Layout.{word_count}
use Rattle.uring_words.specs.Completion.Rule.{tail_seen}
use Rattle.uring_words.specs.Sides.{Hands, Fits}
use Rattle.uring_words.specs.declared.completion.view.AppSide.{AppSide}
use Rattle.uring_words.specs.declared.completion.view.KernelSide.{KernelSide}
use Rattle.uring_words.specs.declared.sides.View.{View}

-- the completions that these words are
abbrev pub completions_of : List (List ℕ) → List Cqe
completions_of cells = map completion_of cells

-- an end: its table, and what its seat knows
pub record End : Type 0 where
  pub table : TableId
  pub knows : View AppSide KernelSide

-- only what the application knows changed, to a
abbrev pub app_knows : End → AppSide → End
app_knows e a = record e { knows = record e.knows { app = a } }

-- only what the dispatcher knows changed, to d
abbrev pub kernel_knows : End → KernelSide → End
kernel_knows e d = record e { knows = record e.knows { kernel = d } }

-- The dispatcher's end, with no word of the next cell stored: its seat of this table, what it knows, what it carries, the ring's size, and its index words of the head that it last saw and of the tail.
pub record IsWriter (seat table : TableId) (v : View AppSide KernelSide) (carried : Hands) (size head tail : ℕ) : Type 0 where
  pub fits : Fits seat table carried (word_count size) 8192 size v.kernel.size
  pub is_kernel : v.is_kernel ≡ true
  pub cell : v.kernel.cell ≡ []
  pub tail_word : tail ≡ word_of v.kernel.start (length v.kernel.put)
  pub head_word : head ≡ word_of v.kernel.start v.kernel.head_seen
  pub below : v.kernel.head_seen ≤ length v.kernel.put
  pub room : length v.kernel.put ≤ v.kernel.head_seen + size

-- The application's end, where all that was copied is got and no word of the next completion is loaded, and its index words of the tail that it last saw and of the head.
pub record IsReader (seat table : TableId) (v : View AppSide KernelSide) (carried : Hands) (size tail head : ℕ) : Type 0 where
  pub fits : Fits seat table carried (word_count size) 8192 size v.app.size
  pub is_app : v.is_app ≡ true
  pub loaded : v.app.loaded ≡ 0
  pub tail_word : tail ≡ word_of v.app.start (tail_seen v.app)
  pub head_word : head ≡ word_of v.app.start (length v.app.copied)
  pub got : v.app.got ≡ length v.app.copied
  pub few : length v.app.known ≤ size

-- It knew of no completion that isn't copied, it loaded the tail, and it knows of none.
pub record FindsNone (before after : End) : Type 0 where
  pub before_none : before.knows.app.known ≡ []
  pub looked : before.knows.app.looks < after.knows.app.looks
  pub after_none : after.knows.app.known ≡ []

-- the first known completion, c, was copied
abbrev pub copied_one : AppSide → List ℕ → List (List ℕ) → AppSide
copied_one a c cs = record a { copied = a.copied ++ c ∷ []; known = cs; loaded = 0 }

-- The first known completion was copied and got, and is this one.
pub record GetsOne (before after : End) (completion : Cqe) : Type 0 where
  pub words : List ℕ
  pub others : List (List ℕ)
  pub known : before.knows.app.known ≡ words ∷ others
  pub is : after
      ≡ app_knows before (record before.knows.app { copied = before.knows.app.copied ++ words ∷ []; known = others; got = before.knows.app.got + 1 })
  pub gives : completion_of words ≡ completion
