-- The eventfd that is registered with a ring, by what has happened, the newest first. io_uring_register(2), IORING_REGISTER_EVENTFD, IORING_REGISTER_EVENTFD_ASYNC and IORING_UNREGISTER_EVENTFD; the order of faults is what Linux 6.18 was seen to do.
use Rattle.std.specs.Prelude.{◌≡◌, ℕ, ℤ, pos, Bool, true, false, not, ◌&&◌, ◌||◌, ◌==◌, List, [], ◌∷◌, if◌then◌else◌}
use Rattle.std.specs.Int.RustNames.{bit_and}
use Rattle.uring_register.specs.declared.rings.eventfd.Eventfd.{Eventfd}
pub use Rattle.uring_entry.specs.Errors.{error}

pub data Telling : Type 0 where
  -- one was registered, that is told of what ends asynchronously alone (EVENTFD_ASYNC), or of all
  Registered : Bool → Telling
  -- it was unregistered
  Unregistered : Telling

abbrev pub is_registered : List Telling → Bool
is_registered [] = false
is_registered (Registered async ∷ earlier) = true
is_registered (Unregistered ∷ earlier) = false

abbrev pub is_async : List Telling → Bool
is_async [] = false
is_async (Registered async ∷ earlier) = async
is_async (Unregistered ∷ earlier) = false

-- -16 (EBUSY) of a second one, -14 (EFAULT) if its number can't be read, -9 (EBADF) if it isn't open, -22 (EINVAL) if it is no eventfd
abbrev pub registering_fault : List Telling → Bool → Bool → Bool → ℤ
registering_fault log is_read is_open is_eventfd =
    if is_registered log then error 16 else
    if not is_read then error 14 else
    if not is_open then error 9 else
    if not is_eventfd then error 22 else pos 0

-- -6 (ENXIO) where there is none
abbrev pub unregistering_fault : List Telling → ℤ
unregistering_fault log = if is_registered log then pos 0 else error 6

-- it is told, unless the completion ring's flags have IORING_CQ_EVENTFD_DISABLED (1)
abbrev pub tells : List Telling → ℕ → Bool
tells log cq_flags = is_registered log && bit_and cq_flags 1 == 0

-- what is added to it for so many completions that it is to be told of and that are shown together: 1, if it is told; nothing to one whose counter has no room, since a kernel never waits for that. What Linux 6.18 was seen to do, but that there a counter may come to 2^64 - 1, which no write can bring it to
abbrev pub added : List Telling → (cq_flags told : ℕ) → (has_room : Bool) → ℕ
added log cq_flags told has_room = if tells log cq_flags && not (told == 0) && has_room then 1 else 0

-- whoever sleeps on it, or looks at memory alone, doesn't call: so a call leaves nothing that can go on where there is one, or the ring has a thread (SQPOLL). Our own rule
abbrev pub may_leave : List Telling → Bool → Bool
may_leave log has_thread = not (is_registered log || has_thread)

-- glue: what is kept of all this
pub record KeepsEventfd (log : List Telling) (e : Eventfd) : Type 0 where
  pub registered : e.is_registered ≡ is_registered log
  pub async : e.is_async ≡ is_async log
