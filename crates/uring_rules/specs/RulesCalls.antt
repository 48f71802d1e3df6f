-- What a submission call makes of the requests, by the rules of a set-up. io_uring_enter(2), IOSQE_IO_LINK.
use Rattle.std.specs.Prelude.{Bool, List, ◌++◌, if◌then◌else◌}
use Rattle.uring_entry.specs.Layout.{Sqe}
use Rattle.uring_entry.specs.Requests as manual
use Rattle.uring_linux.specs.LinuxRequests as linux
use Rattle.uring_linux.specs.LinuxRequests.{LinuxRequests}
use Rattle.uring_linux.specs.Happenings.{with_entries}
use Rattle.uring_rules.specs.Rules.{drains_called}

-- an entry is accepted
abbrev pub accepted_by : (is_linux : Bool) → LinuxRequests → Sqe → LinuxRequests
accepted_by is_linux l entry =
    if is_linux then linux.with_accepted l entry else
    record l { requests = manual.with_accepted l.requests entry }

-- these entries are accepted, one after the other
abbrev pub all_accepted_by : (is_linux : Bool) → LinuxRequests → List Sqe → LinuxRequests
all_accepted_by is_linux l entries =
    if is_linux then with_entries l entries else
    record l { requests = record l.requests { accepted = l.requests.accepted ++ entries } }

-- a call closes
abbrev pub cut_by : (is_linux : Bool) → LinuxRequests → LinuxRequests
cut_by is_linux l =
    if is_linux then linux.with_cut l else record l { requests = manual.with_cut l.requests }

-- a whole call accepts these entries, and closes
abbrev pub called_by : (is_linux : Bool) → LinuxRequests → List Sqe → LinuxRequests
called_by is_linux l entries = record {
  requests = manual.with_call l.requests entries;
  drains = drains_called is_linux l entries;
}
