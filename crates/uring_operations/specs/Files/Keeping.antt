-- What a request's file is kept for, and what others hear of its end. Our own rules, but where it is said what a kernel does: there a request has its file from the moment in which it begins, and each write and each end is told as it comes.
use Rattle.std.specs.Prelude.{◌≡◌, ℕ, ℤ, Bool, true, false, not, ◌&&◌, ◌||◌, ◌==◌, nat_lt, Option, Some, None}
use Rattle.std.specs.Ordering.{int_eq}
use Rattle.std.specs.Int.RustNames.{bit_and}
use Rattle.uring_operations.specs.declared.requests.ready.RequestStanding.{RequestStanding}
use Rattle.uring_operations.specs.Entries.Clocks.{has_some}
use Rattle.uring_operations.specs.Files.Descriptors.{directions_of}

-- whether a request keeps its file before a close is carried out: it was accepted before that, so that a kernel would have begun it, and is on the descriptor that is closed
abbrev pub keeps_before_close : (number : ℕ) → (fd : ℤ) → (closing : ℕ) → (closed : ℤ) → Bool
keeps_before_close number fd closing closed = nat_lt number closing && int_eq fd closed

-- whether a request is given the copy of its file that was made for another right before: that one's was copied, and by the same number, which is one file's while copies are made one right after the other; and it hasn't to wait for its descriptor. Who waits has a copy of his own, by which an epoll instance tells of him alone
abbrev pub shares_copy : RequestStanding → (fd : ℤ) → (copied : Option ℤ) → Bool
shares_copy s fd None = false
shares_copy s fd (Some other) = int_eq other fd && not s.is_stream

-- whether the end of a request may have closed the last descriptor of a file that it has kept, by which others can go on, as who reads the other end of a pipe: others run, it has closed one, and no other of the application's is known to be open on the file. That of a slot may be gone, and the number that its entry names may be another file's by now
abbrev pub may_close_last : (others : ℕ) → (was_closed has_file is_of_slot is_same : Bool) → Bool
may_close_last others was_closed has_file is_of_slot is_same =
    nat_lt 0 others && was_closed && has_file && (is_of_slot || not is_same)

-- whether the number is another file's is asked where it matters alone
abbrev pub AsksWhereItMatters : Type 0
AsksWhereItMatters = (others : ℕ) (was_closed has_file is_same : Bool)
    → (may_close_last 0 was_closed has_file false is_same ≡ false)
    × (may_close_last others was_closed has_file true true ≡ may_close_last others was_closed has_file true false)

-- whether writes to the file of a descriptor are heard: it is a pipe, with a name or without, by its mode (inode(7), S_IFIFO), and open to be read. Sockets tell inotify nothing, and a descriptor that isn't open to be read brings no poll what was written
abbrev pub is_heard : (mode flags : ℕ) → Bool
is_heard mode flags = bit_and mode 61440 == 4096 && (directions_of flags).can_read

-- of a pipe's events inotify tells of writes alone: IN_MODIFY. inotify(7)
abbrev pub heard_events : ℕ
heard_events = 2

-- what was written is there still if the pipe has something to be read: POLLIN. poll(2)
abbrev pub left_events : ℕ
left_events = 1

-- whether a pipe counts as written to after an event: it tells of a write (IN_MODIFY) to that pipe, or that events were dropped (IN_Q_OVERFLOW, 16384), among which there may have been such a one
abbrev pub counts_as_written : (mask : ℕ) → (is_own : Bool) → Bool
counts_as_written mask is_own = has_some mask 16384 || has_some mask heard_events && is_own

-- whether whoever polls a ring's descriptor is told anew: it has become readable, or isn't any more; or it is readable still, more was posted since it was told last, and somebody may wait for an edge of it (epoll(7), EPOLLET), which a kernel gives for each completion: another thread or process, or this one between its calls. So it is told of each call that posts, unless nobody does (`may_wait_for_edges`)
abbrev pub tells_anew : (was_readable is_readable has_posted may_wait_for_edges : Bool) → Bool
tells_anew was_readable is_readable has_posted may_wait_for_edges =
    (is_readable && not was_readable) || (was_readable && not is_readable)
    || is_readable && has_posted && may_wait_for_edges

-- whether a call may have somebody wait for edges of a ring's descriptor which makes this change of what an epoll instance waits for: it adds a descriptor or takes another look at one (EPOLL_CTL_ADD, 1, and EPOLL_CTL_MOD, 3), which may be an epoll instance's, as a ring's is. Who waits for an instance within another has put the inner one's descriptor there before. epoll_ctl(2)
abbrev pub may_begin_to_wait : (change : ℕ) → (may_be_instance : Bool) → Bool
may_begin_to_wait change may_be_instance = may_be_instance && (change == 1 || change == 3)

-- whether a message may hand a descriptor to another process, which waits unheard: it carries control data, in so many bytes, as descriptors are sent. unix(7), SCM_RIGHTS
abbrev pub may_hand_on : (control : ℕ) → Bool
may_hand_on control = nat_lt 0 control

-- whether somebody may wait for edges of a ring's descriptor: who runs the program doesn't say that nobody does, and either the calls aren't all heard by which one begins to, or one was heard. Nobody is heard to end it
abbrev pub may_wait_for_edges : (is_denied are_heard was_heard : Bool) → Bool
may_wait_for_edges is_denied are_heard was_heard = not is_denied && (not are_heard || was_heard)

-- whether it is asked, as a copy of a file's descriptor is to be closed, if the process has locks on the file: it is a regular one, as almost all are that have any. Then it is asked of each copy that has stayed so far too, and those are closed that needn't stay any more
abbrev pub asks_locks : (is_regular : Bool) → Bool
asks_locks is_regular = is_regular

-- so many copies stay at most
abbrev pub most_left : ℕ
most_left = 256

-- whether a copy of a file's descriptor stays open that nobody needs, beside so many others: the process has locks on the file, which it would lose with the first descriptor that it closes (fcntl(2)); a kernel's ring has no descriptor of it
abbrev pub stays_open : (is_locked : Bool) → (others : ℕ) → Bool
stays_open is_locked others = is_locked && nat_lt others most_left
