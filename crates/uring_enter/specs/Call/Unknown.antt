-- What is taken to be so where it can't be asked, as in a process without /proc; and what is asked once, or only if it matters. Our own rules, but where a source is named.
use Rattle.std.specs.Prelude.{ℕ, Bool, true, false, not, ◌&&◌, ◌||◌, ◌==◌, Option, Some, None}
use Rattle.std.specs.Int.RustNames.{bit_and}
use Rattle.uring_enter.specs.declared.call.unknown.Matter.{Matter}
use Rattle.uring_enter.specs.declared.call.unknown.Matter.TheVariants.{Reached, Eventfd, Counter, Processor, SameFile, Locked}

-- a ring stays as long as a descriptor may be open on it, and a program means what it says of an eventfd and of a processor: nothing is taken away and nothing refused for what isn't known; nor is a lock lost that a process may have. A descriptor is one that counts only if that is known: of another a short transfer waits, and the system call refuses it then. Two descriptors are on one file only if that is known: so others are looked at again after an end that may have closed the last descriptor of a file, and no poll counts as one of the ring's own eventfd. A file may have a lock of the process's: a descriptor of it isn't closed, as that would drop the lock
abbrev pub unless_known : Matter → Bool
unless_known Reached = true
unless_known Eventfd = true
unless_known Counter = false
unless_known Processor = true
unless_known SameFile = false
unless_known Locked = true

abbrev pub is_taken_so : Matter → Option Bool → Bool
is_taken_so matter (Some is_so) = is_so
is_taken_so matter None = unless_known matter

-- another thread may make a call, unless the process is known to have exactly one. Its folder of threads (/proc/self/task, proc(5)) has two links of its own, and one by each of them
abbrev pub may_have_others : Option ℕ → Bool
may_have_others (Some links) = not (links == 3)
may_have_others None = true

-- a call reads its mask before it sleeps for the first time, and sleeps with that until it returns, whatever becomes of the memory: what Linux 6.18 was seen to do
abbrev pub reads_mask : ℕ → Bool
reads_mask sleeps = sleeps == 0

-- of other threads it is asked only where no request waits for a descriptor and no timeout runs
abbrev pub asks_threads : Bool → Bool → Bool
asks_threads has_streams has_timeouts = not (has_streams || has_timeouts)

-- of signals it is asked only where the call has a mask, which may let one come that its thread doesn't, and no request waits for a descriptor
abbrev pub asks_signals : Bool → Bool → Bool
asks_signals has_mask has_streams = has_mask && not has_streams

-- a signal that waits comes to a call as soon as its mask doesn't hold it back, whether a handler awaits it or it is ignored: what Linux 6.18 was seen to do. Both are sets of bits, of a signal's number less 1
abbrev pub comes_by_mask : (waiting mask : ℕ) → Bool
comes_by_mask waiting mask = not (bit_and waiting mask == waiting)
