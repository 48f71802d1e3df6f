-- Which calls of io_uring_register(2) there are, and with which error each is refused for its arguments, in the kernel's order. io_uring_register(2), DESCRIPTION and ERRORS; the order of faults is what Linux 6.18 was seen to do.
use Rattle.std.specs.Prelude.{ℕ, ℤ, pos, negsuc, Bool, true, false, not, ◌&&◌, ◌||◌, ◌==◌, nat_le, min, Option, Some, None, if◌then◌else◌}
use Rattle.std.specs.Ordering.{int_eq}
use Rattle.std.specs.Int.RustNames.{bit_and}
use Rattle.uring_register.specs.declared.calls.call.Call.{Call}
use Rattle.uring_register.specs.declared.calls.call.Probe.{Probe as Probed}
use Rattle.uring_register.specs.declared.calls.call.Call.TheVariants.{RegisterBuffers, UnregisterBuffers, RegisterFiles, UnregisterFiles, RegisterEventfd, UnregisterEventfd, UpdateFiles, RegisterEventfdAsync, Probe, RegisterRestrictions, EnableRing, RegisterFilesSized, UpdateFilesSized, RegisterBuffersSized, UpdateBuffersSized, EnrollRings, DismissRings, RegisterBufferRing, UnregisterBufferRing, Cancel, GiveOut}
use Rattle.uring_register.specs.declared.calls.call.Caller.{Caller}
use Rattle.uring_register.specs.declared.calls.call.Content.{Content}
use Rattle.uring_entry.specs.Errors.{error}

-- the calls that are served; the numbers are those of <linux/io_uring.h>
abbrev pub call_of : ℕ → Option Call
call_of code =
    -- BUFFERS and UNREGISTER_BUFFERS, FILES and UNREGISTER_FILES
    if code == 0 then Some RegisterBuffers else
    if code == 1 then Some UnregisterBuffers else
    if code == 2 then Some RegisterFiles else
    if code == 3 then Some UnregisterFiles else
    -- EVENTFD, UNREGISTER_EVENTFD, FILES_UPDATE, EVENTFD_ASYNC and PROBE
    if code == 4 then Some RegisterEventfd else
    if code == 5 then Some UnregisterEventfd else
    if code == 6 then Some UpdateFiles else
    if code == 7 then Some RegisterEventfdAsync else
    if code == 8 then Some Probe else
    -- RESTRICTIONS and ENABLE_RINGS
    if code == 11 then Some RegisterRestrictions else
    if code == 12 then Some EnableRing else
    -- FILES2, FILES_UPDATE2, BUFFERS2 and BUFFERS_UPDATE
    if code == 13 then Some RegisterFilesSized else
    if code == 14 then Some UpdateFilesSized else
    if code == 15 then Some RegisterBuffersSized else
    if code == 16 then Some UpdateBuffersSized else
    -- RING_FDS and UNREGISTER_RING_FDS, PBUF_RING and UNREGISTER_PBUF_RING
    if code == 20 then Some EnrollRings else
    if code == 21 then Some DismissRings else
    if code == 22 then Some RegisterBufferRing else
    if code == 23 then Some UnregisterBufferRing else
    -- SYNC_CANCEL and FILE_ALLOC_RANGE
    if code == 24 then Some Cancel else
    if code == 25 then Some GiveOut else None

abbrev pub is_call : Option Call → Bool
is_call None = false
is_call (Some call) = true

-- who calls on what: -22 (EINVAL) of a number that Linux 6.18 has no call of (36 and more), and of the descriptor -1, by which it has other calls; -9 (EBADF) of one that isn't open, -95 (EOPNOTSUPP) of what is no ring, -17 (EEXIST) of a thread that may not call on it, -13 (EACCES) of a call that the ring's restrictions don't allow; and -22 of a call that isn't served
abbrev pub calling_fault : ℕ → Caller → ℤ
calling_fault code c =
    if nat_le 36 code then error 22 else
    if int_eq c.fd (negsuc 0) then error 22 else
    if not c.is_open then error 9 else
    if not c.is_ring then error 95 else
    if c.is_another then error 17 else
    if not c.is_allowed then error 13 else
    if is_call (call_of code) then pos 0 else error 22

-- -22, unless this is so
abbrev pub unless : Bool → ℤ
unless holds = if holds then pos 0 else error 22

-- a call that undoes another takes nothing
abbrev pub takes_nothing : Bool → ℕ → ℤ
takes_nothing has_argument count = unless (not has_argument && count == 0)

-- one that takes a structure takes one of it
abbrev pub takes_one : Bool → ℕ → ℤ
takes_one has_argument count = unless (has_argument && count == 1)

-- the fault of a call's argument and its count, before anything is read
abbrev pub argument_fault : Call → Bool → ℕ → ℤ
-- -14 (EFAULT) of no list; its length is a matter of the table
argument_fault RegisterBuffers has_argument count = if has_argument then pos 0 else error 14
argument_fault RegisterFiles has_argument count = if has_argument then pos 0 else error 14
argument_fault UpdateFiles has_argument count = unless (not (count == 0))
-- the count is the size of a structure, of 32 bytes
argument_fault RegisterFilesSized has_argument count = unless (count == 32)
argument_fault UpdateFilesSized has_argument count = unless (count == 32)
argument_fault RegisterBuffersSized has_argument count = unless (count == 32)
argument_fault UpdateBuffersSized has_argument count = unless (count == 32)
argument_fault GiveOut has_argument count = unless (has_argument && count == 0)
argument_fault UnregisterBuffers has_argument count = takes_nothing has_argument count
argument_fault UnregisterFiles has_argument count = takes_nothing has_argument count
argument_fault UnregisterEventfd has_argument count = takes_nothing has_argument count
argument_fault EnableRing has_argument count = takes_nothing has_argument count
-- a number that can't be read is -14 later: of a second eventfd it isn't looked at
argument_fault RegisterEventfd has_argument count = unless (count == 1)
argument_fault RegisterEventfdAsync has_argument count = unless (count == 1)
-- at most 256 operations are asked about
argument_fault Probe has_argument count = unless (has_argument && nat_le count 256)
argument_fault RegisterBufferRing has_argument count = takes_one has_argument count
argument_fault UnregisterBufferRing has_argument count = takes_one has_argument count
argument_fault Cancel has_argument count = takes_one has_argument count
-- a thread has 16 rows
argument_fault EnrollRings has_argument count = unless (not (count == 0) && nat_le count 16)
argument_fault DismissRings has_argument count = unless (not (count == 0) && nat_le count 16)
-- whether the ring is disabled comes first
argument_fault RegisterRestrictions has_argument count = pos 0

-- a table without a list (IORING_RSRC_REGISTER_SPARSE, 1)
abbrev pub is_table : Content → Bool
is_table c =
    not (c.nr == 0) && not c.has_reserved && bit_and c.flags 4294967294 == 0
    && not (not (bit_and c.flags 1 == 0) && c.has_data)

abbrev pub is_update : Content → Bool
is_update c = not (c.nr == 0) && not c.has_reserved

-- IORING_ASYNC_CANCEL_ALL is 1, FD 2, ANY 4 and FD_FIXED 8. One of any may name a file too, which is looked for, though an entry may not: what Linux 6.18 does. That takes two flags more, and this none of them: our own rule
abbrev pub is_cancel : Content → Bool
is_cancel c = not c.has_reserved && bit_and c.flags 4294967280 == 0

-- what a call reads may be this. A probe is all zero
abbrev pub is_content : Call → Content → Bool
is_content RegisterFilesSized c = is_table c
is_content RegisterBuffersSized c = is_table c
is_content UpdateFiles c = is_update c
is_content UpdateFilesSized c = is_update c
is_content UpdateBuffersSized c = is_update c
is_content Cancel c = is_cancel c
is_content Probe c = not c.has_reserved
is_content _ c = true

-- the fault of what a call reads: -14 if it can't be read
abbrev pub content_fault : Call → Bool → Content → ℤ
content_fault call is_read c = if is_read then unless (is_content call c) else error 14

-- what a probe tells: the last operation that there is, LISTEN (57), and how many rows are looked at, and told, which are those of operations that there are
abbrev pub probe_of : ℕ → Probed
probe_of count = record { last = 57; rows = min count 58 }

-- whether a call ends requests, each of which then posts its completion: a cancel
abbrev pub ends_requests : Call → Bool
ends_requests Cancel = true
ends_requests _ = false

-- whether a call takes files or buffers out of their table, each of which posts its tag once it is gone, if it has one: those that unregister all, or put others in their place
abbrev pub takes_out : Call → Bool
takes_out UnregisterBuffers = true
takes_out UpdateBuffersSized = true
takes_out UnregisterFiles = true
takes_out UpdateFiles = true
takes_out UpdateFilesSized = true
takes_out _ = false

-- whether a call may post completions. One that enables a ring posts none, since nothing runs there before
abbrev pub posts : Option Call → Bool
posts None = false
posts (Some call) = ends_requests call || takes_out call

abbrev pub may_post : ℕ → Bool
may_post code = posts (call_of code)

-- of the two calls that register an eventfd this one's is told of what ends asynchronously alone: io_uring_register(2), IORING_REGISTER_EVENTFD_ASYNC
abbrev pub is_async_call : Call → Bool
is_async_call RegisterEventfdAsync = true
is_async_call _ = false

abbrev pub is_for_async : Option Call → Bool
is_for_async None = false
is_for_async (Some call) = is_async_call call

abbrev pub tells_async_alone : ℕ → Bool
tells_async_alone code = is_for_async (call_of code)
