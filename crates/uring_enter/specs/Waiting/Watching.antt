-- What a ring's descriptor polls for, by the requests that wait for one descriptor. epoll_ctl(2): a number that is closed and opened again is another file, which isn't polled for. That a descriptor is polled for afresh once another request waits for it is our own rule.
use Rattle.std.specs.Prelude.{◌≡◌, ℕ, ℤ, max, Bool, true, false, not, ◌&&◌, ◌||◌, ◌==◌, List, [], ◌∷◌, Option, Some, None, if◌then◌else◌}
use Rattle.std.specs.Ordering.{int_eq}
use Rattle.std.specs.Int.RustNames.{bit_or}
use Rattle.uring_entry.specs.Errors.{error, is_below}
use Rattle.uring_enter.specs.GoingOn.Duties.{polls_writes, polls_instance}
use Rattle.uring_enter.specs.declared.waiting.watched.Besides.{Besides}
use Rattle.uring_enter.specs.declared.waiting.watched.Watched.{Watched}
use Rattle.uring_enter.specs.declared.waiting.watched.Enlisted.{Enlisted}
use Rattle.uring_enter.specs.declared.waiting.watched.Enlisted.TheVariants.{Tells, IsReady, CantTell}
use Rattle.uring_enter.specs.declared.waiting.watched.Watch.{Watch}
use Rattle.uring_enter.specs.declared.waiting.watched.Watch.TheVariants.{Stays, Adds, Removes, Renews}

pub data Waiting : Type 0 where
  -- a request waits for these events, and began to at this count
  Waits : ℕ → ℕ → Waiting

-- the events of all
abbrev pub events_of : List Waiting → ℕ
events_of [] = 0
events_of (Waits events begun ∷ others) = bit_or (events_of others) events

-- when the last of them began
abbrev pub newest_of : List Waiting → ℕ
newest_of [] = 0
newest_of (Waits events begun ∷ others) = max (newest_of others) begun

-- glue: what is kept is that of a descriptor for which these wait
pub record KeepsWatched (waiting : List Waiting) (w : Watched) : Type 0 where
  pub events : w.events ≡ events_of waiting
  pub begun : w.begun ≡ newest_of waiting

-- glue: whether it couldn't be told of, and whether it was given back
pub record StandsAs (is_untold is_given_back : Bool) (w : Watched) : Type 0 where
  pub untold : w.is_untold ≡ is_untold
  pub given_back : w.is_given_back ≡ is_given_back

-- it stays where the events are the same and nobody has begun to wait; None: nobody waits. What couldn't be told of is tried again by each call, as it was added at first; and a number that was given back, and is waited for again, may be another file's by now. Our own rule
abbrev pub change_of : Option Watched → Option Watched → Watch
change_of None None = Stays
change_of None (Some after) = Adds
change_of (Some before) None = Removes
change_of (Some before) (Some after) =
    if before.is_untold then Adds else
    if before.is_given_back then Renews else
    if before.events == after.events && before.begun == after.begun then Stays else Renews

-- a renewal that comes to -2 (ENOENT) is of a number that isn't polled for any more, since it was closed, and is another file's: that one is added
abbrev pub adds_after : ℤ → Bool
adds_after res = int_eq res (error 2)

-- an epoll instance tells of a descriptor that it takes, or has (-17, EEXIST). One that can't be polled (-1, EPERM) or isn't open (-9, EBADF) poll(2) shows at once. Of any other that it refuses it can't tell, as of an instance in too many others (-40, ELOOP), or where no more are watched (-28, ENOSPC): a sleep polls then by poll(2), and a ring's descriptor stays readable, so that whoever waits by it looks. epoll_ctl(2), errors; what is done then is our own rule
abbrev pub enlisted_as : ℤ → Enlisted
enlisted_as res =
    if not (is_below res) || int_eq res (error 17) then Tells else
    if int_eq res (error 1) || int_eq res (error 9) then IsReady else CantTell

abbrev pub cant_tell : Enlisted → Bool
cant_tell CantTell = true
cant_tell _ = false

abbrev pub is_ready : Enlisted → Bool
is_ready IsReady = true
is_ready _ = false

-- whether a descriptor is one that can't be told of, once its addition has come to this
abbrev pub is_untold_after : ℤ → Bool
is_untold_after res = cant_tell (enlisted_as res)

-- what an instance makes of two descriptors, or more: it can't tell of all if it can't tell of one, whatever else there is; and it needn't be asked if one is ready. Our own rule
abbrev pub both : Enlisted → Enlisted → Enlisted
both one other =
    if cant_tell one || cant_tell other then CantTell else
    if is_ready one || is_ready other then IsReady else Tells

-- beside what its requests wait for, a ring's descriptor polls for what tells of writes to pipes where any are watched, as a sleep does; and for the epoll instance of those that are dormant as long as there is one, whether any are: so nothing is changed of it as requests become dormant and are roused. Our own rule
abbrev pub polls_besides : (watched : ℕ) → (has_instance : Bool) → Besides
polls_besides watched has_instance = record { writes = polls_writes watched; instance = has_instance }

-- whoever polls the descriptor hears of what a call that sleeps would hear of, if there is an instance where any are dormant
abbrev pub PollsWhatASleepDoes : Type 0
PollsWhatASleepDoes = (watched dormant : ℕ) (has_instance : Bool)
    → (polls_instance dormant ≡ true → has_instance ≡ true)
    → (polls_writes watched ≡ true → (polls_besides watched has_instance).writes ≡ true)
    × (polls_instance dormant ≡ true → (polls_besides watched has_instance).instance ≡ true)
