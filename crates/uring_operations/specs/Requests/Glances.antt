-- What a look at descriptors says of a request that waits. poll(2), but where our own rule is named.
use Rattle.std.specs.Prelude.{◌≡◌, ℕ, ℤ, Bool, true, false, not, ◌&&◌, ◌||◌, ◌==◌, if◌then◌else◌}
use Rattle.uring_operations.specs.declared.requests.glance.Glance.{Glance}
use Rattle.uring_operations.specs.declared.requests.glance.Glance.TheVariants.{Unready, Ready, AsksAlone}
use Rattle.uring_operations.specs.declared.entries.submission.Submission.{Submission}
use Rattle.uring_operations.specs.Entries.Needs.{is_write, is_send}
use Rattle.uring_operations.specs.Requests.Readiness.{counts_as_ready}
use Rattle.uring_entry.specs.Errors.{is_below}

-- an impatient one is ready, whatever its descriptor shows. Where many are polled at once and that fails, nothing is known of any, and each is looked at alone: our own rule
abbrev pub glance_of : (is_impatient is_of_many : Bool) → ℤ → ℕ → Glance
glance_of is_impatient is_of_many came events =
    if is_impatient then Ready else
    if is_of_many && is_below came then AsksAlone else
    if counts_as_ready came events then Ready else Unready

-- one whose descriptor has shown nothing is found so again once its socket was asked whether it listens, though it isn't looked at once more: ready if it has become impatient by that. Our own rule
abbrev pub unshown_glance : (is_impatient : Bool) → Glance
unshown_glance is_impatient = if is_impatient then Ready else Unready

-- a socket of AF_UNIX (1) and SOCK_STREAM (1) that was shut down for writing alone, or whose peer was for reading, shows nothing in poll(2), and what writes to it ends with -32 (EPIPE): so a write or a send that waits for room is ready there. That is asked by a send of no bytes, which such a socket makes nothing of else. unix(7), shutdown(2); what Linux 6.18 was seen to do
abbrev pub asks_broken : Submission → (family kind : ℕ) → Bool
asks_broken e family kind = family == 1 && kind == 1 && (is_write e.opcode || is_send e.opcode)

-- whether a request is found ready: by a look, as above; one that is to be carried out once whatever its descriptor shows (`is_tried_first`), until it was; and one whose socket was shut down so. Our own rule
abbrev pub is_found_ready : (is_shown is_tried_first was_tried is_broken : Bool) → Bool
is_found_ready is_shown is_tried_first was_tried is_broken =
    is_shown || is_tried_first && not was_tried || is_broken

-- so whether its socket was is asked where nothing else makes it ready
abbrev pub asks_breaking : (is_shown is_tried_first was_tried : Bool) → Bool
asks_breaking is_shown is_tried_first was_tried = not (is_shown || is_tried_first && not was_tried)

-- where it isn't asked it doesn't matter
abbrev pub AsksBreakingWhereItMatters : Type 0
AsksBreakingWhereItMatters = (is_shown is_tried_first was_tried : Bool)
    → asks_breaking is_shown is_tried_first was_tried ≡ false
    → is_found_ready is_shown is_tried_first was_tried true ≡ is_found_ready is_shown is_tried_first was_tried false
