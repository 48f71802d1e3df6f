-- What is read of the submission ring, and what the core is given of it. io_uring(7), Submitting I/O requests; that the core is told no more of an entry is our own rule.
use Rattle.std.specs.Prelude.{ℕ, ℤ, pos, List, Bool, true, false, not, ◌&&◌, ◌||◌, ◌==◌, nat_lt, Option, Some, None, if◌then◌else◌}
use Rattle.uring_enter.specs.declared.taking_up.core_entry.Beside.{Beside}
use Rattle.uring_enter.specs.declared.taking_up.core_entry.CoreEntry.{CoreEntry}
use Rattle.uring_enter.specs.declared.taking_up.core_entry.Extra.{Extra}
use Rattle.uring_operations.specs.declared.entries.form.Form.{Form}
use Rattle.uring_operations.specs.declared.entries.form.Form.TheVariants.{Token, Cancel, Refused}
use Rattle.uring_operations.specs.declared.chains.member.Member.{Member}
use Rattle.uring_operations.specs.declared.entries.submission.Submission.{Submission}
use Rattle.uring_operations.specs.Entries.Clocks.{has_some}
use Rattle.uring_operations.specs.Entries.Forms.{core_flags, first_fault}
use Rattle.uring_entry.specs.Errors.{error, is_below}
use Rattle.uring_entry.specs.Layout.{header, without_data}
use Rattle.std.specs.Int.RustNames.{bit_and, bit_or}

-- the slot that an index word names in a table of so many entries: one past its end names none, and is dropped. io_uring_setup(2), struct io_sqring_offsets
abbrev pub slot_of : ℕ → ℕ → Option ℕ
slot_of word entries = if nat_lt word entries then Some word else None

-- two requests of a call are of one chain
abbrev pub is_one_chain : Member → Member → Bool
is_one_chain one other = one.chain == other.chain

-- IOSQE_IO_DRAIN is 2
abbrev pub is_drain : ℕ → Bool
is_drain flags = has_some flags 2

-- the operation that the core is told: a no-op (0) stands for whatever is carried out outside of it, a cancel (14) for a cancel of its own, and 255, which it doesn't serve, for an entry with an unknown operation or a refused flag. One with another fault, whose drain and skip count by Linux's rules, is a read (22) of more bytes than the core takes
abbrev pub code_of : Form → Submission → ℕ
code_of Token e = 0
code_of Cancel e = 14
code_of (Refused _) e = if is_below (first_fault e) then 255 else 22

-- more than 64 bytes are a fault of any entry of the core's
abbrev pub len_of : Form → Submission → ℕ
len_of (Refused _) e = if is_below (first_fault e) then 0 else 65
len_of _ e = 0

-- whom a cancel of the core's looks for: the user data in the place of its address
abbrev pub target_of : Form → Submission → ℕ
target_of Cancel e = e.addr
target_of _ e = 0

abbrev pub is_refused : Form → Bool
is_refused (Refused _) = true
is_refused _ = false

-- an entry that is this to the core, and which the one before it links or doesn't, as far as what is told of the one beside it goes by it
abbrev pub beside_of : Submission → Form → (is_linked : Bool) → Beside
beside_of e form is_linked = record {
  is_there = true;
  begins = not is_linked;
  is_refused = is_refused form;
  is_past = not (is_below (first_fault e));
  opcode = e.opcode;
  flags = e.flags;
}

-- IOSQE_IO_LINK (4) or IOSQE_IO_HARDLINK (8)
abbrev pub links_next : Beside → Bool
links_next b = b.is_there && has_some b.flags 12

-- a linked timeout (15) that ends its chain
abbrev pub is_last_timeout : Beside → Bool
is_last_timeout b = b.is_there && b.opcode == 15 && not (has_some b.flags 12)

-- IOSQE_CQE_SKIP_SUCCESS is 64
abbrev pub skips : Beside → Bool
skips b = has_some b.flags 64

abbrev pub with_skip : ℕ → (is_skipped : Bool) → ℕ
with_skip flags is_skipped = if is_skipped then bit_or flags 64 else bit_and flags 191

-- where a linked timeout ends the chain after an entry with these flags, IO_LINK (4) is told as IO_HARDLINK (8). So the timeout ends by itself whatever becomes of the request that it limits, and posts as its own flags say, which Linux 6.18 was seen to do
abbrev pub hard_before : ℕ → (next : Beside) → ℕ
hard_before flags next =
    if has_some flags 4 && not (has_some flags 8) && is_last_timeout next then bit_or flags 8 else flags

-- a chain's first entry, which has a fault, and a linked timeout without one that ends the chain after it; neither asks to drain (2)
abbrev pub are_fault_and_timeout : (first next : Beside) → Bool
are_fault_and_timeout first next =
    links_next first && (first.begins && first.is_refused && not (has_some first.flags 2))
    && (is_last_timeout next && not next.is_refused && not (has_some next.flags 2))

-- The flags that are told of an entry between these of its call, by Linux's rules. Of two such the timeout posts as its own flags say, which Linux 6.18 was seen to do; to the core it is cancelled by the first one's failure, and posts unless that asks to skip. So the first is told to ask as the timeout does: it fails itself, and posts whatever it asks for. And the timeout is told to ask if either does, so that drains after it are refused as they are where the first asks; but a first entry that comes past no first look asks for nothing that counts there.
abbrev pub flags_between : ℕ → (own before next : Beside) → (linux : Bool) → ℕ
flags_between flags own before next linux =
    if not linux then flags else
    if are_fault_and_timeout own next then with_skip (hard_before flags next) (skips next) else
    if are_fault_and_timeout before own then with_skip flags (skips own || skips before && before.is_past)
    else hard_before flags next

-- the core posts one completion of a request, and one that belongs to no end is posted as the end of an entry of its own. By Linux's rules that is one of an unknown operation (255), which is refused: it waits for no drain, and takes none that is owed. By the manual pages' it is a no-op (0), which succeeds. Our own rule
abbrev pub extra_of : (linux : Bool) → Extra
extra_of linux =
    if linux then record { code = 255; form = Refused (error 22) } else record { code = 0; form = Token }

-- what the core is told of the end of a request that it let start: 0 of a success, and -9 (EBADF) of any failure, as an fsync ends whose descriptor has no file. Which failure it was matters to none of its rules. An extra one that it lets start succeeds. Our own rule
abbrev pub told_of_end : (is_success : Bool) → ℤ
told_of_end is_success = if is_success then pos 0 else error 9

-- the core's entry of an application's
abbrev pub core_entry_of : Submission → Form → CoreEntry
core_entry_of e form = record {
  code = code_of form e;
  flags = core_flags e.flags;
  user_data = e.user_data;
  target = target_of form e;
  len = len_of form e;
}

-- and of one that stands between these of its call, or where there is none
abbrev pub core_entry_between : Submission → Form → (before next : Beside) → (linux : Bool) → CoreEntry
core_entry_between e form before next linux =
    record (core_entry_of e form) { flags = flags_between (core_flags e.flags) (beside_of e form (links_next before)) before next linux }

-- the words of the core's entry, as it reads them: its fields stand where those of struct io_uring_sqe do, and all others are zero. io_uring_enter(2)
abbrev pub words_of : CoreEntry → List ℕ
words_of c = without_data (header c.code c.flags (pos 0) 0 c.target c.len c.user_data)
