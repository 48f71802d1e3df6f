-- What was replied in a call so far, the newest first, and what it tells.
use Rattle.std.specs.Prelude.{ℕ, ℤ, pos, negsuc, Bool, true, false, not, ◌&&◌, ◌||◌, ◌==◌, nat_le, nat_lt, min, List, [], ◌∷◌, if◌then◌else◌}
use Rattle.uring_entry.specs.Errors.{error}
use Rattle.uring_enter.specs.declared.call.asked.Asked.{Asked}
use Rattle.uring_enter.specs.declared.call.reply.Sight.{Sight}
use Rattle.uring_enter.specs.declared.call.reply.Reply.{Reply}
use Rattle.uring_enter.specs.declared.call.reply.Reply.TheVariants.{Taken, NotTaken, LeastOver}

-- what the submission came to: how many entries were taken, or the error for which none was. io_uring_enter(2), RETURN VALUE
abbrev pub submission : List Reply → ℤ
submission [] = pos 0
submission (Taken count sight ∷ earlier) = pos count
submission (NotTaken number sight ∷ earlier) = error number
submission (_ ∷ earlier) = submission earlier

-- whether nothing was submitted, and no error came
abbrev pub is_none : ℤ → Bool
is_none (pos count) = count == 0
is_none (negsuc _) = false

-- whether all entries were taken that the call was asked to submit
abbrev pub has_taken_all : Asked → List Reply → Bool
has_taken_all a [] = false
has_taken_all a (Taken count sight ∷ earlier) = count == a.to_submit
has_taken_all a (NotTaken number sight ∷ earlier) = false
has_taken_all a (_ ∷ earlier) = has_taken_all a earlier

-- how many timeouts of the ring had ended when the entries were submitted
abbrev pub expired_before : List Reply → ℕ
expired_before [] = 0
expired_before (Taken count sight ∷ earlier) = sight.expired
expired_before (NotTaken number sight ∷ earlier) = sight.expired
expired_before (_ ∷ earlier) = expired_before earlier

-- a call that waits: it gets events, one at least, and all was submitted. It waits for nothing if not. io_uring_enter(2), IORING_ENTER_GETEVENTS; that it doesn't if a part was submitted is what the kernel does
abbrev pub waits : Asked → List Reply → Bool
waits a log = a.gets && has_taken_all a log && nat_lt 0 a.min_complete

-- a call that looks whether there is a completion: the same, for no event. Our own rule
abbrev pub looks : Asked → List Reply → Bool
looks a log = a.gets && has_taken_all a log && not (nat_lt 0 a.min_complete)

-- whether its least time is over, after which one completion is enough. io_uring_enter(2), min_wait_usec
abbrev pub is_least_over : List Reply → Bool
is_least_over [] = false
is_least_over (LeastOver sight has_limit ∷ earlier) = true
is_least_over (_ ∷ earlier) = is_least_over earlier

-- how many completions are enough for a call that waits: as many as it waits for, or as the ring can show; and one, once its least time is over. io_uring_enter(2), min_complete
abbrev pub enough : Asked → List Reply → ℕ
enough a log = if is_least_over log then 1 else min a.min_complete a.cq

-- enough for a call that waits: so many completions; or a timeout has ended since it submitted, and no other is to end first. IORING_OP_TIMEOUT
abbrev pub is_enough : Asked → List Reply → Sight → Bool
is_enough a log sight =
    nat_le (enough a log) sight.ready
    || not (sight.expired == expired_before log) && not sight.is_due
