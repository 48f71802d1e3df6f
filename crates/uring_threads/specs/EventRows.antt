-- The rows of steps that the dispatcher records: our own rule.
use Rattle.std.specs.Prelude.{◌≡◌, ◌⊎◌, ℕ, zero, suc, ◌+◌, List, [], ◌∷◌, ◌++◌, length, map, replicate, Result, IfOk}
use Rattle.uring_entry.specs.Setup.{Setup}
use Rattle.uring_entry.specs.Submission.{Submission}
use Rattle.uring_core.specs.declared.step.Step.{Step}
use Rattle.uring_core.specs.declared.step.Step.TheVariants as step
use Rattle.uring_ports.specs.declared.item.Item.{Item}
use Rattle.uring_ports.specs.declared.item.Item.TheVariants as item
use Rattle.uring_ports.specs.declared.pulled.Pulled.{Pulled}
use Rattle.uring_ports.specs.declared.pulled.Pulled.TheVariants as pulled
use Rattle.uring_ports.specs.Ports.{Put, Pulls}
use Rattle.uring_threads.specs.Calls.{AreBegun, calls_of, calls_left, calls_row}
use Rattle.uring_threads.specs.Delivered.{OnlyPosts}
use Rattle.uring_threads.specs.Kept.{Kept, now}
use Rattle.uring_threads.specs.Tallies.{Appends}
use Rattle.uring_threads.specs.declared.calls.CallMade.{CallMade}
use Rattle.uring_threads.specs.declared.calls.CallMade.TheVariants as made
use Rattle.uring_threads.specs.declared.intake.Intake.{Intake}
use Rattle.uring_threads.specs.declared.intake.Intake.TheVariants as intake
use Rattle.uring_threads.specs.declared.turns.Turn.{Turn}

-- An item is put into a slot: an entry is filled in and its slot staged, and a bad word is staged.
abbrev pub item_row : ℕ → Item → List Step
item_row slot (item.Entry entry) = step.Fill slot entry ∷ step.Index slot ∷ []
item_row slot (item.Bad word) = step.Index word ∷ []

-- The items of a call are put, the first into this slot and each other into the one after.
abbrev pub items_row : ℕ → List Item → List Step
items_row slot [] = []
items_row slot (x ∷ more) = item_row slot x ++ items_row (slot + 1) more

-- A call of so many positions is begun: it opens, takes so many, or as many as there are before one ends it, and closes, and the application loads the head; or nothing follows.
abbrev pub call_row : ℕ → CallMade → List Step
call_row count (made.Taken taken) =
    step.Begin count ∷ replicate taken step.Take ++ step.End ∷ step.LoadHead ∷ []
call_row count made.Again = step.Begin count ∷ []
call_row count made.Spent = step.Begin count ∷ []

-- The items of a call are put and published, and calls are begun that take them.
pub record AreTaken (g : Setup) (items : List Item) (steps : List Step) : Type 0 where
  pub begun : List Step
  pub are_begun : AreBegun (calls_of g items) begun
  pub row : steps ≡ items_row 0 items ++ step.StoreTail ∷ begun

-- So many completions are delivered: the overflow list is flushed, the tail loaded, each is reaped, and the head stored. Without any, nothing is recorded.
abbrev pub delivery_row : ℕ → List Step
delivery_row zero = []
delivery_row (suc more) =
    step.Flush ∷ step.LoadCqTail ∷ replicate (suc more) step.Reap ++ step.StoreCqHead ∷ []

-- What waits, if something does, is begun once more, or nothing is.
abbrev pub IsAgain : Setup → Submission → Intake → List Step → Type 0
IsAgain g l (intake.Waiting count) steps = (steps ≡ []) ⊎ AreBegun (calls_left g l) steps
IsAgain g l _ steps = steps ≡ []

-- The next may be pulled after these steps for what waited: all of that is taken. Nothing may be while a call waits, nor once one was given up since the numbers of requests are spent, nor after the close mark.
abbrev pub MayPull : Setup → Submission → Intake → List Step → Type 0
MayPull g l intake.Ready steps = Unit {0}
MayPull g l (intake.Waiting count) steps = steps ≡ calls_row (calls_left g l) []
MayPull g l _ steps = ⊥

-- Glue. What waited, if something did, is begun once more, or nothing is; so the intake stands then.
pub record BeginsAgain (old new : Kept) (before after : Intake) : Type 0 where
  pub steps : List Step
  pub is : IsAgain old.setup (now old).submission before steps
  pub all : after ≡ intake.Ready → MayPull old.setup (now old).submission before steps
  pub row : Appends old new steps

-- What was pulled is taken: a call is put and begun, or the ring is closed, or nothing is done.
abbrev pub IsTaken : Setup → Pulled → List Item → List Step → Type 0
IsTaken g pulled.Call items steps = AreTaken g items steps
IsTaken g pulled.Close items steps = steps ≡ step.Close ∷ []
IsTaken g pulled.Nothing items steps = steps ≡ []

-- One call was pulled of a ring of this set-up, or the close mark, or nothing, and that is taken.
abbrev pub IsPulled : Setup → Put → Put → List Step → Type 0
IsPulled g before after steps =
    (what : Pulled) × (items : List Item) × Pulls g.sq before what items after
    × IsTaken g what items steps

-- The rows of a turn's first part: what waits, and what was pulled after it.
pub record RecordsIntake (old new : Kept) (i : Intake) (before after : Put) : Type 0 where
  pub again : List Step
  pub pulled : List Step
  pub is_again : IsAgain old.setup (now old).submission i again
  pub may_pull : (after ≡ before) ⊎ MayPull old.setup (now old).submission i again
  pub is_pulled : IsPulled old.setup before after pulled
  pub row : Appends old new (again ++ pulled)

-- Glue. So many results are taken in, or requests issued, each by one such step: nothing else is recorded, and of the rings only more is posted.
pub record Repeats (old new : Kept) (kind : ℕ → Step) (count : ℕ) : Type 0 where
  pub numbers : List ℕ
  pub many : length numbers ≡ count
  pub row : Appends old new (map kind numbers)
  pub posts : OnlyPosts (now old) (now new)

-- So many results, issues and completions are those of a turn.
pub record AreOfTurn (turn : Turn) (finished issued : List ℕ) (delivered : ℕ) : Type 0 where
  pub finishes : length finished ≡ turn.finished
  pub issues : length issued ≡ turn.issued
  pub reaps : delivered ≡ turn.delivered

-- The rows of a turn with this answer: what waited, if anything did, what was pulled, results that are taken in, requests that are issued, and completions that are delivered, as many as the answer says, if it is Ok. Each may be missing, and nothing else is recorded.
pub record RecordsTurn {E : Type 0} (old new : Kept) (i : Intake) (before after : Put) (answer : Result Turn E) : Type 0 where
  pub again : List Step
  pub pulled : List Step
  pub finished : List ℕ
  pub issued : List ℕ
  pub delivered : ℕ
  pub is_again : IsAgain old.setup (now old).submission i again
  -- nothing was pulled, or all that waited was taken before
  pub may_pull : (after ≡ before) ⊎ MayPull old.setup (now old).submission i again
  pub is_pulled : IsPulled old.setup before after pulled
  pub row : Appends old new
      (again ++ pulled ++ map step.Finish finished ++ map step.Issue issued
      ++ delivery_row delivered)
  pub told : IfOk answer (λ turn. AreOfTurn turn finished issued delivered)
