-- Which polls have their events before an operation may take what they wait for. What Linux 6.18 was seen to do: in the moment in which something comes, whoever waits for it is told, polls too, and they keep that event though another takes what came.
use Rattle.std.specs.Prelude.{◌≡◌, Bool, true, false, not, ◌&&◌}
use Rattle.uring_operations.specs.declared.entries.needs.Needs.{Needs}
use Rattle.uring_operations.specs.declared.requests.ready.RequestStanding.{RequestStanding}
use Rattle.uring_operations.specs.Entries.Clocks.{has_some}

-- an operation that may have to wait for its descriptor: until there is something to be read (POLLIN, 1), as a read, a receive or an accept, or room to be written to (POLLOUT, 4), as a write or a send; a splice for both. A poll takes nothing
abbrev pub may_take : RequestStanding → Needs → Bool
may_take s n = s.is_stream && not n.is_poll && has_some n.events 5

-- a poll of the same file, or of either one of a splice, which waited before: its descriptor was looked at since it started, and wasn't ready. One that has started since something came is told of what is there when it is looked at
abbrev pub has_event_first : Needs → (has_waited is_same_file : Bool) → Bool
has_event_first n has_waited is_same_file = n.is_poll && has_waited && is_same_file

-- whether two descriptors are open on one file matters only where the request would have its event first if they were
abbrev pub AsksWhereItMatters : Type 0
AsksWhereItMatters = (n : Needs) (has_waited : Bool)
    → has_event_first n has_waited true ≡ false → has_event_first n has_waited false ≡ false
