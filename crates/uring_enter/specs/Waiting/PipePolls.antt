-- Which polls of a pipe are told of what was written to it and is gone. What Linux 6.18 was seen to do: each poll of a pipe for what it has to be read (POLLIN, 1, and POLLRDNORM, 64) is told in the moment of a write, also if what was written is read at once.
use Rattle.std.specs.Prelude.{ℕ, ◌==◌, Bool, not, ◌&&◌}
use Rattle.uring_enter.specs.declared.waiting.pipe_poll.PipePoll.{PipePoll}
use Rattle.uring_operations.specs.Entries.Clocks.{has_some}

-- whether a request is to be told of writes: a poll that runs for what a pipe has to be read, which no cancel has found
abbrev pub awaits : PipePoll → Bool
awaits p = p.is_poll && p.is_of_pipe && not p.is_cancelled && has_some p.events 65

-- whether it awaits the writes that a number tells of, which isn't 0
abbrev pub is_of_write : PipePoll → ℕ → Bool
is_of_write p watch = awaits p && p.watch == watch && not (watch == 0)

-- whether it is told: all that await it are, where what was written is gone. What is there still is found by whoever looks
abbrev pub is_told : PipePoll → ℕ → Bool → Bool
is_told p watch is_there = is_of_write p watch && not is_there
