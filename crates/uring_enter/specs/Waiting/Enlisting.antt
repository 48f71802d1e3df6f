-- Descriptors that are given to the epoll instance of those that wait. epoll_ctl(2), but where our own rule is named.
use Rattle.std.specs.Prelude.{ℤ, Bool, not, ◌&&◌, if◌then◌else◌}
use Rattle.std.specs.Ordering.{int_eq}
use Rattle.uring_entry.specs.Errors.{error, is_below}
use Rattle.uring_enter.specs.declared.waiting.enlisting.Enlisting.{Enlisting}
use Rattle.uring_enter.specs.declared.waiting.enlisting.Enlisting.TheVariants.{Listed, AddsDuplicate, Unlisted}

-- an instance has each number of an open file once, -17 (EEXIST): where two requests wait for one number, it is given a duplicate for the second. It refuses what can't be polled, -1 (EPERM), and where the user may watch no more, -28 (ENOSPC): such a request is looked at as long as it waits. Our own rule
abbrev pub enlisting_after : ℤ → (is_duplicate : Bool) → Enlisting
enlisting_after came is_duplicate =
    if not (is_below came) then Listed else
    if int_eq came (error 17) && not is_duplicate then AddsDuplicate else Unlisted
