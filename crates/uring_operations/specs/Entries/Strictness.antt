-- What a ring that goes by a kernel refuses of its entries, by those that it was asked about, the newest first. io_uring_enter(2), IOSQE_CQE_SKIP_SUCCESS: after one that skips its success a drain couldn't tell when all before it have ended, so the kernel refuses drains for good.
use Rattle.std.specs.Prelude.{◌≡◌, ℕ, ℤ, pos, Bool, false, not, ◌&&◌, ◌||◌, List, [], ◌∷◌, if◌then◌else◌}
use Rattle.std.specs.Int.RustNames.{bit_and}
use Rattle.uring_operations.specs.declared.entries.strict.Strict.{Strict}
use Rattle.uring_operations.specs.declared.entries.submission.Submission.{Submission}
use Rattle.uring_operations.specs.Entries.Clocks.{has_some}
use Rattle.uring_operations.specs.Entries.Forms.{first_fault}
use Rattle.uring_entry.specs.Errors.{error, is_below}

pub data Looked : Type 0 where
  -- an entry, whose operation the kernel serves or not, and which knows IOSQE_CQE_SKIP_SUCCESS or not
  Looks : Submission → Bool → Bool → Looked

-- the kernel doesn't serve its operation, or doesn't know IOSQE_CQE_SKIP_SUCCESS (64), which it has
abbrev pub is_unserved : Submission → (is_served knows_skip : Bool) → Bool
is_unserved e is_served knows_skip = not is_served || has_some e.flags 64 && not knows_skip

-- the fault of an entry's operation and flags, which goes before: -22 (EINVAL) of what the kernel doesn't know, IOSQE_CQE_SKIP_SUCCESS (64) among that, else as on any ring
abbrev pub unserved_fault : Submission → Bool → Bool → ℤ
unserved_fault e is_served knows_skip =
    if is_unserved e is_served knows_skip then error 22 else first_fault e

-- one without such a fault has skipped its success
abbrev pub has_skipped : List Looked → Bool
has_skipped [] = false
has_skipped (Looks e is_served knows_skip ∷ earlier) =
    has_skipped earlier || not (is_below (unserved_fault e is_served knows_skip)) && has_some e.flags 64

-- such a fault; else -95 (EOPNOTSUPP) of a drain (2) once one has skipped its success, itself among them. That a skip counts only of an entry without such a fault is what Linux 6.18 was seen to do
abbrev pub refusal_of : List Looked → Submission → Bool → Bool → ℤ
refusal_of log e is_served knows_skip =
    if is_below (unserved_fault e is_served knows_skip) then unserved_fault e is_served knows_skip else
    if has_skipped (Looks e is_served knows_skip ∷ log) && has_some e.flags 2 then error 95 else pos 0

-- with which flags a strict ring's set-up asks the kernel: its own, but IORING_SETUP_ATTACH_WQ (32), since what it names is a ring of the layer's. Our own rule
abbrev pub flags_asked : ℕ → ℕ
flags_asked flags = bit_and flags 4294967263

-- whether a ring goes by a kernel: a strict one by this machine's, and one by Linux's rules by one that serves all. One by the manual pages' rules refuses nothing so
abbrev pub goes_by_kernel : (is_strict linux : Bool) → Bool
goes_by_kernel is_strict linux = is_strict || linux

-- what a ring refuses an entry with whose operation this machine's kernel serves or not, and which knows IOSQE_CQE_SKIP_SUCCESS or not
abbrev pub refusal_by : List Looked → Submission → (is_strict linux is_served knows_skip : Bool) → ℤ
refusal_by log e is_strict linux is_served knows_skip =
    if goes_by_kernel is_strict linux then refusal_of log e (not is_strict || is_served) (not is_strict || knows_skip) else pos 0

-- what it was asked about after that
abbrev pub looked_by : List Looked → Submission → (is_strict linux is_served knows_skip : Bool) → List Looked
looked_by log e is_strict linux is_served knows_skip =
    if goes_by_kernel is_strict linux then Looks e (not is_strict || is_served) (not is_strict || knows_skip) ∷ log else log

-- glue: what is kept is that of a ring that was asked about these
pub record KeepsStrict (log : List Looked) (s : Strict) : Type 0 where
  pub has_skipped : s.has_skipped ≡ has_skipped log
