-- What becomes of a transfer that is carried out: which call is made, and after each what is done next. io_uring_enter(2), IORING_OP_READ; preadv2(2), RWF_NOWAIT; but where our own rule is named.
use Rattle.std.specs.Prelude.{◌≡◌, ℕ, ℤ, pos, negsuc, suc, Bool, true, false, not, ◌&&◌, ◌||◌, ◌==◌, Option, Some, None, ◌⊎◌, if◌then◌else◌}
use Rattle.std.specs.Ordering.{int_eq}
use Rattle.uring_operations.specs.declared.calls.transfer.Transfer.{Transfer}
use Rattle.uring_operations.specs.declared.calls.transfer.How.{How}
use Rattle.uring_operations.specs.declared.calls.transfer.How.TheVariants.{AtOnce, Tried, Plain, Nonblocking, Unwilling}
use Rattle.uring_operations.specs.declared.calls.transfer.Task.{Task}
use Rattle.uring_operations.specs.declared.calls.transfer.Task.TheVariants.{Calls, Finds, Polls}
use Rattle.uring_operations.specs.declared.calls.transfer.Step.{Step}
use Rattle.uring_operations.specs.declared.calls.transfer.Step.TheVariants.{Does, Waits, Ends}
use Rattle.uring_entry.specs.Errors.{error, is_below}

-- one that failed when it started ends so. What never waits, or is asked not to, or for nothing, is made as it is; another is asked not to wait
abbrev pub carries_out : Transfer → Step
carries_out t =
    if is_below t.fault then Ends t.fault else
    if not t.is_stream || t.is_impatient then Does (Calls Plain) else Does (Calls Nonblocking)

-- one is tried before its descriptor was asked, or all was: our own rule
abbrev pub begins : Transfer → Step
begins t =
    if t.is_at_once then Does (Calls AtOnce) else
    if t.is_tried then Does (Calls Tried) else carries_out t

-- it has moved all that it was asked to
abbrev pub is_all : ℤ → ℕ → Bool
is_all (pos n) length = n == length
is_all (negsuc _) length = false

-- it has moved something
abbrev pub has_moved : ℤ → Bool
has_moved (pos n) = not (n == 0)
has_moved (negsuc _) = false

-- what would have had to wait (-11, EAGAIN) waits, whatever the descriptor says of waiting, as in the kernel; but where the socket was shut down no more comes
abbrev pub unless_waiting : Transfer → ℤ → Step
unless_waiting t res = if int_eq res (error 11) && not t.is_shut then Waits else Ends res

-- a call that can't be asked so (-95, EOPNOTSUPP) is made once its descriptor is ready, and that is asked in its place
abbrev pub after_asking : Transfer → ℤ → Step
after_asking t res = if int_eq res (error 95) then Does Polls else unless_waiting t res

-- unless a try is its end, it is found out what the descriptor is
abbrev pub unless : Bool → ℤ → Step
unless is_end res = if is_end then Ends res else Does Finds

-- what is done next, after a task that came to `res`; of what is found out about the descriptor, `res` is that of the call before. A read that was made at once and hasn't moved all is made once more, unless a stream gave what it moved; so is what was tried at an offset, on what has none (-29, ESPIPE)
abbrev pub after : Transfer → Task → ℤ → Step
after t (Calls AtOnce) res = unless (is_all res t.length) res
after t (Calls Tried) res = unless (not (int_eq res (error 29))) res
after t (Calls Plain) res = Ends res
after t (Calls Nonblocking) res = after_asking t res
after t (Calls Unwilling) res = unless_waiting t res
after t Finds res = if t.is_stream && has_moved res then Ends res else carries_out t
after t Polls res = if int_eq res (pos 0) then Waits else Does (Calls Unwilling)

-- what is done next
abbrev pub next_of : Transfer → Option Task → ℤ → Step
next_of t None res = begins t
next_of t (Some task) res = after t task res

-- a stream that has no offsets is moved at none: 2^64 - 1. io_uring_prep_read(3)
abbrev pub offset_of : Transfer → ℕ → ℕ
offset_of t offset = if t.is_stream && not t.has_offsets then 18446744073709551615 else offset

-- a call that is asked not to wait, by RWF_NOWAIT
abbrev pub asks_not_to_wait : How → Bool
asks_not_to_wait AtOnce = true
asks_not_to_wait Nonblocking = true
asks_not_to_wait _ = false

-- one whose descriptor is asked not to wait while it is made, by O_NONBLOCK. open(2)
abbrev pub asks_descriptor : How → Bool
asks_descriptor Unwilling = true
asks_descriptor _ = false

-- one that doesn't sleep though neither is asked: its descriptor was found to be a file, or never waits; or the entry asks it not to wait, or for nothing
abbrev pub never_sleeps : Transfer → Bool
never_sleeps t = t.is_tried || not t.is_stream || t.is_impatient

-- each call is asked not to wait, or its descriptor is for as long as it is made, or neither would wait. That its descriptor was found ready just before isn't enough: whoever else uses that may have taken what there was. It says no more than how the call is made: of two processes that use one descriptor, each may take back what the other has asked of it
abbrev pub SleepsNever : Type 0
SleepsNever = (t : Transfer) (last : Option Task) (res : ℤ) (how : How) → next_of t last res ≡ Does (Calls how)
    → asks_not_to_wait how || asks_descriptor how || never_sleeps t ≡ true

-- a transfer ends with what the last call came to, or with what its start found out
abbrev pub TellsWhatCame : Type 0
TellsWhatCame = (t : Transfer) (last : Option Task) (res end : ℤ) → next_of t last res ≡ Ends end
    → (end ≡ res) ⊎ ((end ≡ t.fault) × (is_below end ≡ true))

-- what a stream has given is told: no call is made after that
abbrev pub LosesNothing : Type 0
LosesNothing = (t : Transfer) (task : Task) (n : ℕ) (how : How) → t.is_stream ≡ true
    → after t task (pos (suc n)) ≡ Does (Calls how) → task ≡ Polls
