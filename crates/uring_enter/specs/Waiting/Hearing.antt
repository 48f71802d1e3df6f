-- In which order writes to pipes are heard, and which polls are told of them. Our own rules: a kernel tells each poll in the moment of a write; here inotify(7) notes writes while nobody looks, and calls read that.
use Rattle.std.specs.Prelude.{◌≡◌, ℕ, Bool, true, not, nat_lt, Option, Some, None, if◌then◌else◌}
use Rattle.uring_enter.specs.declared.waiting.hearing.Hearing.{Hearing}
use Rattle.uring_enter.specs.declared.waiting.hearing.Hearing.TheVariants.{Adds, Drops, TellsOfGone, Sorts, Reads, CountsAsHeard}
use Rattle.uring_enter.specs.declared.waiting.hearing.Telling.{Telling}
use Rattle.uring_enter.specs.declared.waiting.hearing.Telling.TheVariants.{PassesOver, Asks, Tells}
use Rattle.uring_enter.specs.declared.waiting.pipe_poll.PipePoll.{PipePoll}
use Rattle.uring_enter.specs.Waiting.PipePolls.{is_of_write}

-- as a call begins, or has slept: what others have written meanwhile is read and told, before it counts as heard, from when on what the ring's own requests write is told from that of others. Where no pipe is watched there is nothing to be read
abbrev pub next_at_begin : Option Hearing → (watched : ℕ) → Option Hearing
next_at_begin None watched = if nat_lt 0 watched then Some Reads else Some CountsAsHeard
next_at_begin (Some Reads) watched = Some CountsAsHeard
next_at_begin (Some _) watched = None

-- as a call returns, or is to sleep: first each poll gets its watch, so that no write is missed from then on; then those are let go that none waits by. What was there when a poll heard of it, and is gone by now, is told before what was written since is read, by which a poll may hear anew
abbrev pub next_at_rest : Option Hearing → (watched : ℕ) → Option Hearing
next_at_rest None watched = Some Adds
next_at_rest (Some Adds) watched = if nat_lt 0 watched then Some Drops else None
next_at_rest (Some Drops) watched = Some TellsOfGone
next_at_rest (Some TellsOfGone) watched = Some Sorts
next_at_rest (Some _) watched = None

-- a poll that awaits a write is told, once it is known whether what was written is there still: which is asked of the first, since all of them wait for one pipe
abbrev pub telling_of : PipePoll → (watch : ℕ) → (is_known : Bool) → Telling
telling_of p watch is_known =
    if not (is_of_write p watch) then PassesOver else
    if is_known then Tells else Asks

-- once it is known, none is asked, and each that awaits the write is told
abbrev pub AsksOneOfAll : Type 0
AsksOneOfAll = (p : PipePoll) (watch : ℕ)
    → (telling_of p watch true ≡ Asks → ⊥) × (is_of_write p watch ≡ true → telling_of p watch true ≡ Tells)

-- where no pipe is watched none is read
abbrev pub ReadsWhatIsWatched : Type 0
ReadsWhatIsWatched = (next_at_begin None 0 ≡ Some CountsAsHeard) × (next_at_rest (Some Adds) 0 ≡ None)
