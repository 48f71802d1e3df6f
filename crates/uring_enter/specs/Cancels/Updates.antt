-- What an update makes of a poll, and of a timeout. io_uring_enter(2), IORING_OP_POLL_REMOVE and IORING_OP_TIMEOUT_REMOVE.
use Rattle.std.specs.Prelude.{◌≡◌, ℕ, ℤ, pos, Bool, false, not, ◌&&◌, ◌||◌, ◌==◌, List, [], ◌∷◌, if◌then◌else◌}
use Rattle.std.specs.Int.RustNames.{bit_and, bit_or}
use Rattle.uring_operations.specs.declared.entries.submission.Submission.{Submission}
use Rattle.uring_enter.specs.declared.cancels.update.Linked.{Linked}
use Rattle.uring_enter.specs.declared.cancels.update.LinkedUpdate.{LinkedUpdate}
use Rattle.uring_enter.specs.declared.cancels.update.Removal.{Removal}
use Rattle.uring_enter.specs.declared.cancels.update.Removal.TheVariants.{Cancel, Update, UpdateLinked, Nothing}
use Rattle.uring_operations.specs.Entries.Clocks.{has_some}
use Rattle.uring_enter.specs.Rings.Missing.{missing_fault}
use Rattle.uring_enter.specs.declared.rings.missing.Missing.TheVariants as missing

-- IORING_POLL_UPDATE_EVENTS is 2 and UPDATE_USER_DATA 4
abbrev pub poll_removal : Submission → Removal
poll_removal e = if has_some e.len 6 then Update else Cancel

-- what it names it looks for, and does nothing where that isn't there; but which linked timeout is changed is looked for by other words, as below
abbrev pub found_removal : Removal → (is_found : Bool) → Removal
found_removal UpdateLinked is_found = UpdateLinked
found_removal removal is_found = if is_found then removal else Nothing

-- a removal, or an update, ends with 0 if it has found what it names, and else with -2 (ENOENT). io_uring_enter(2)
abbrev pub removal_result : (is_found : Bool) → ℤ
removal_result is_found = if is_found then pos 0 else missing_fault missing.Request

-- IORING_LINK_TIMEOUT_UPDATE is 16 and IORING_TIMEOUT_UPDATE 2. Without the second the first changes nothing, and the timeout is removed; what the kernel does
abbrev pub timeout_removal : Submission → Removal
timeout_removal e =
    if has_some e.op_flags 2 then (if has_some e.op_flags 16 then UpdateLinked else Update) else Cancel

-- an update of linked timeouts may change one that runs and has its user data, and looks at nothing else that has it. IORING_LINK_TIMEOUT_UPDATE; what the kernel does
abbrev pub updates_linked : ℕ → Linked → Bool
updates_linked user_data seen = seen.is_linked && seen.user_data == user_data

-- whether it may change any of these
abbrev pub changes_any : ℕ → List Linked → Bool
changes_any user_data [] = false
changes_any user_data (seen ∷ earlier) = updates_linked user_data seen || changes_any user_data earlier

-- it changes the first of which that is so, and no other, of those that run in the order in which they started: so one that limits the first of a chain comes before one that limits a later member of an older chain. What Linux 6.18 was seen to do
abbrev pub is_changed : ℕ → List Linked → Linked → Bool
is_changed user_data earlier seen = not (changes_any user_data earlier) && updates_linked user_data seen

-- and ends as any removal does
abbrev pub linked_result : ℕ → List Linked → ℤ
linked_result user_data seen = removal_result (changes_any user_data seen)

-- glue: an update that has looked at these, the newest first
pub record HasLooked (user_data : ℕ) (seen : List Linked) (update : LinkedUpdate) : Type 0 where
  pub named : update.user_data ≡ user_data
  pub found : update.has_found ≡ changes_any user_data seen

-- a poll keeps what isn't updated, and goes on, or doesn't, as before, whether or not the update has IORING_POLL_ADD_MULTI: what Linux 6.18 was seen to do. Its events are those of `poll32_events`, and so are the new ones, of which 16 bits count; its new user data is `off`
abbrev pub updated_poll : Submission → Submission → Submission
updated_poll p e = record p {
  user_data = if has_some e.len 4 then e.off else p.user_data;
  op_flags = if has_some e.len 2 then bit_or (bit_and e.op_flags 65535) (bit_and p.op_flags 4294901760) else p.op_flags;
}

-- whether the new time is absolute the update says: IORING_TIMEOUT_ABS is 1. Its clock is that of the timeout, which keeps all other flags of 32 bits: what Linux 6.18 was seen to do
abbrev pub updated_flags : ℕ → Submission → ℕ
updated_flags flags e = bit_or (bit_and flags 4294967294) (bit_and e.op_flags 1)

-- its new time is all that a timeout waits for then: it has no count any more, which `off` was, be it one that has started or not. What Linux 6.18 does
abbrev pub updated_timeout : Submission → Submission → Submission
updated_timeout t e = record t { off = 0; op_flags = updated_flags t.op_flags e }
