-- How a call of io_uring_enter(2) finds its ring, and what it is refused with before anything is done. io_uring_enter(2), DESCRIPTION and ERRORS; but where our own rule is named.
use Rattle.std.specs.Prelude.{ℕ, ℤ, Bool, ◌&&◌, ◌==◌, if◌then◌else◌}
use Rattle.uring_entry.specs.Errors.{error}
use Rattle.uring_operations.specs.Entries.Clocks.{has_some}
use Rattle.uring_enter.specs.declared.call.reaching.Naming.{Naming}
use Rattle.uring_enter.specs.declared.call.reaching.Naming.TheVariants.{Refused, ByDescriptor, ByNumber}

-- all flags but IORING_ENTER_GETEVENTS (1), SQ_WAKEUP (2), SQ_WAIT (4), EXT_ARG (8) and REGISTERED_RING (16), which are served: 2^32 - 32
abbrev pub unserved_flags : ℕ
unserved_flags = 4294967264

-- a flag that isn't served is refused first, with -22 (EINVAL), whatever the descriptor is. With IORING_ENTER_REGISTERED_RING that is the number of a ring that the thread has registered
abbrev pub naming_of : ℕ → Naming
naming_of flags =
    if has_some flags unserved_flags then Refused (error 22) else
    if has_some flags 16 then ByNumber else ByDescriptor

-- the error of a call whose descriptor is no ring's: -9 (EBADF) where it isn't open, else -95 (EOPNOTSUPP)
abbrev pub no_ring_fault : Bool → ℤ
no_ring_fault is_open = if is_open then error 95 else error 9

-- whether a call that has submitted looks in vain: it gets events, and waits for none, and no completion is there. Then something goes on before it returns, or time passes, which is our own rule: what came before is told apart
abbrev pub looks_in_vain : (gets : Bool) → ℕ → ℕ → Bool
looks_in_vain gets min_complete ready = gets && min_complete == 0 && ready == 0
