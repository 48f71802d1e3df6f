-- Where a submission call ends before all its positions are taken: after entries in a ring whose calls stop, and after a bad word by Linux's rules in any ring. io_uring_setup(2), IORING_SETUP_SUBMIT_ALL; what Linux 6.18 was seen to do is told in docs/PROTOCOL.md, By Linux's rules.
use Rattle.std.specs.Prelude.{ℕ, ◌+◌, Bool, not, ◌&&◌, ◌||◌, List, take, Option, Some, None, if◌then◌else◌}
use Rattle.std.specs.List.{list_any}
use Rattle.uring_entry.specs.Setup.{Setup}
use Rattle.uring_entry.specs.Layout.{Sqe}
use Rattle.uring_entry.specs.Preparation.{is_faulty}
use Rattle.uring_entry.specs.Requests.{is_linked}
use Rattle.uring_entry.specs.Submission.{Submission, Call, taken, entries_of, stops_at}
use Rattle.uring_linux.specs.LinuxRequests.{asks_to_skip, asks_to_drain}

-- the positions that the open call took
abbrev pub open_taken : Option Call → ℕ
open_taken None = 0
open_taken (Some call) = call.taken

-- the positions that were taken, by closed calls and by the open one
abbrev pub reached : Submission → ℕ
reached l = taken l + open_taken l.call

-- their entries
abbrev pub taken_entries : Submission → List Sqe
taken_entries l = entries_of (take (reached l) l.published)

-- whether one of these entries asks for skipped success
abbrev pub some_skips : List Sqe → Bool
some_skips entries = list_any asks_to_skip entries

-- whether a call stops after this entry by Linux's rules, if it or an entry taken before it asks for skipped success, or none does: it has no link flag, and is faulty or a drain that is refused
abbrev pub stops_linux : (has_skipped : Bool) → Sqe → Bool
stops_linux has_skipped e =
    not (is_linked e) && (is_faulty e || (asks_to_drain e && has_skipped))

-- whether a call stops after this entry
abbrev pub stops_after : Setup → (has_skipped : Bool) → Sqe → Bool
stops_after g has_skipped e = if g.linux then g.stops && stops_linux has_skipped e else stops_at g e

-- whether a call stops after a word that names no slot, as it does by Linux's rules, also in a ring that goes on
abbrev pub stops_at_word : Setup → Bool
stops_at_word g = g.linux
