-- What counts as an open descriptor, and when that something wasn't there is why an operation ended. open(2), O_PATH; what Linux 6.18 was seen to do.
use Rattle.std.specs.Prelude.{ℤ, Bool, not, ◌&&◌, ◌||◌}
use Rattle.std.specs.Ordering.{int_eq}
use Rattle.uring_operations.specs.declared.files.openness.Openness.{Openness}
use Rattle.uring_operations.specs.declared.entries.submission.Submission.{Submission}
use Rattle.uring_operations.specs.Entries.Clocks.{has_some}
use Rattle.uring_operations.specs.Entries.Needs.{needs_file}
use Rattle.uring_operations.specs.Entries.NoOps.{wants_file, is_of_slot}
use Rattle.uring_entry.specs.Errors.{error}

-- by its number no descriptor is found that is open for its path alone (O_PATH): by no operation on a file, no cancel and no message, as no ring and no eventfd, and not to be registered. What a slot holds counts, whatever it is open for: an open puts such a file there too. A path may begin at one, and it can be closed: the calls for these find it by themselves
abbrev pub counts_as_open : Openness → (is_of_slot : Bool) → Bool
counts_as_open d is_of_slot = d.is_open && (is_of_slot || not d.is_path)

-- an operation on a file that ends with -9 (EBADF) may have found none, or one that isn't open for it: so its descriptor is asked
abbrev pub asks_openness : Submission → ℤ → Bool
asks_openness e res = (needs_file e.opcode || wants_file e) && int_eq res (error 9)

-- IOSQE_FIXED_FILE is 1
abbrev pub is_by_slot : Submission → Bool
is_by_slot e = has_some e.flags 1 || is_of_slot e

-- whether a request has ended so because something that it needs wasn't there, where its descriptor is this: it had failed as it started, or its file isn't open
abbrev pub is_missing : Submission → (has_failed : Bool) → ℤ → Openness → Bool
is_missing e has_failed res d =
    has_failed || asks_openness e res && not (counts_as_open d (is_by_slot e))
