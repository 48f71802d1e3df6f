-- Which splices and tees aren't to wait that would have to, and what one comes to whose offset is refused. splice(2), SPLICE_F_NONBLOCK, and what Linux 6.18 was seen to do, which the page doesn't tell.
use Rattle.std.specs.Prelude.{ℤ, Bool, not, ◌&&◌, ◌||◌, ◌==◌, if◌then◌else◌}
use Rattle.std.specs.Ordering.{int_eq}
use Rattle.uring_operations.specs.declared.calls.splicing.SpliceEnds.{SpliceEnds}
use Rattle.uring_operations.specs.declared.entries.submission.Submission.{Submission}
use Rattle.uring_operations.specs.declared.files.descriptor.Directions.{Directions}
use Rattle.uring_entry.specs.Errors.{error}
use Rattle.uring_operations.specs.Entries.Clocks.{has_some}

-- what it waits for is a local socket (AF_UNIX, 1) that is a stream (SOCK_STREAM, 1)
abbrev pub is_local_stream : SpliceEnds → Bool
is_local_stream s = s.domain == 1 && s.kind == 1

-- whether the flag counts: where it waits for a pipe, or to read from a local stream. Of every other socket and device O_NONBLOCK alone counts
abbrev pub heeds_flag : SpliceEnds → Bool
heeds_flag s = s.is_pipe || s.waits_to_read && is_local_stream s

-- whether the flag is set (2), or O_NONBLOCK of the other end, which is as good if that is a pipe
abbrev pub has_flag : Submission → SpliceEnds → Bool
has_flag e s = has_some e.op_flags 2 || s.other_is_pipe && s.other_is_unwilling

-- whether one isn't to wait: what it waits for isn't (O_NONBLOCK), or the flag counts and is set
abbrev pub isnt_to_wait : Submission → SpliceEnds → Bool
isnt_to_wait e s = s.is_unwilling || heeds_flag s && has_flag e s

-- splice(2) refuses an offset of a pipe, -29 (ESPIPE), before it asks whether its files are open to be read and written, and a kernel's ring after that
abbrev pub splice_asks_directions : ℤ → Bool
splice_asks_directions came_to = int_eq came_to (error 29)

-- so a splice ends with -9 (EBADF) where they aren't. What Linux 6.18 was seen to do
abbrev pub splice_result : ℤ → (from to : Directions) → ℤ
splice_result came_to from to =
    if splice_asks_directions came_to && not (from.can_read && to.can_write) then error 9 else came_to
