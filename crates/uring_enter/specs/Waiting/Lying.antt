-- What the answers of the epoll instance make of requests that are dormant, of which it tells. Our own rules, but where a manual page is named.
use Rattle.std.specs.Prelude.{ℕ, ℤ, Bool, ◌||◌, if◌then◌else◌}
use Rattle.std.specs.Ordering.{int_eq}
use Rattle.std.specs.Int.RustNames.{bit_or}
use Rattle.uring_enter.specs.declared.waiting.lying.Answered.{Answered}
use Rattle.uring_enter.specs.declared.waiting.lying.Answered.TheVariants.{IsDone, AsksAgain, RousesAll}
use Rattle.uring_entry.specs.Errors.{is_below}

-- a request becomes dormant only by a descriptor of the layer's own: that of the file which it keeps, or of an instance that was asked for its events. By the number that its entry names the application may have another file by the time that the instance tells
abbrev pub takes_descriptor : (keeps_file has_own : Bool) → Bool
takes_descriptor keeps_file has_own = keeps_file || has_own

-- the instance tells of a dormant request once (EPOLLONESHOT, 2^30), as it is roused by that: else it would tell of those that run, and never have told all. epoll_ctl(2)
abbrev pub dormant_events : ℕ → ℕ
dormant_events events = bit_or events 1073741824

-- of so many an instance tells at most at once, so it is asked again where it has told of as many. Where it fails, as one that the program has closed, nobody is told of anything any more, and all are looked at again. epoll_wait(2)
abbrev pub answer_of : ℤ → ℤ → Answered
answer_of came most =
    if is_below came then RousesAll else
    if int_eq came most then AsksAgain else IsDone
