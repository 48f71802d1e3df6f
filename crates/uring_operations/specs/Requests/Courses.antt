-- What has happened to a request that was accepted, the newest first, and what is to be done with it. io_uring(7); io_uring_enter(2); but where our own rule is named.
use Rattle.std.specs.Prelude.{◌≡◌, ℤ, pos, negsuc, Bool, true, false, not, ◌&&◌, int_lt, Option, Some, None, unwrap_or, List, [], ◌∷◌, if◌then◌else◌}
use Rattle.uring_operations.specs.declared.requests.act.Fact.{Fact}
use Rattle.uring_operations.specs.declared.requests.act.Fact.TheVariants.{Started, Dropped, Cancelled, Tried, Waits, WentOn, Done, Notified, Ended}
use Rattle.uring_operations.specs.declared.requests.act.Act.{Act}
use Rattle.uring_operations.specs.declared.requests.act.Act.TheVariants.{Nothing, CarryOut, End}
use Rattle.uring_operations.specs.declared.requests.course.Course.{Course}
use Rattle.uring_operations.specs.declared.entries.submission.Submission.{Submission}
use Rattle.uring_operations.specs.Entries.Clocks.{has_some}
use Rattle.uring_entry.specs.Errors.{error}

-- the core let it start
abbrev pub has_started : List Fact → Bool
has_started [] = false
has_started (Started ∷ earlier) = true
has_started (_ ∷ earlier) = has_started earlier

-- it has ended: without having started, or with a result
abbrev pub has_ended : List Fact → Bool
has_ended [] = false
has_ended (Dropped _ ∷ earlier) = true
has_ended (Ended ∷ earlier) = true
has_ended (_ ∷ earlier) = has_ended earlier

-- a cancel has found it
abbrev pub is_cancelled : List Fact → Bool
is_cancelled [] = false
is_cancelled (Cancelled ∷ earlier) = true
is_cancelled (_ ∷ earlier) = is_cancelled earlier

-- its operation is being carried out: what became of that hasn't been told
abbrev pub is_tried : List Fact → Bool
is_tried [] = false
is_tried (Tried ∷ earlier) = true
is_tried (Waits _ ∷ earlier) = false
is_tried (WentOn ∷ earlier) = false
is_tried (Done _ ∷ earlier) = false
is_tried (_ ∷ earlier) = is_tried earlier

-- the result of its operation; or what it ends with where that has a completion of its own, or where it hasn't started. io_uring_enter(2), IORING_OP_SEND_ZC
abbrev pub result : List Fact → Option ℤ
result [] = None
result (Dropped res ∷ earlier) = Some res
result (Done res ∷ earlier) = Some res
result (Notified res ∷ earlier) = Some res
result (_ ∷ earlier) = result earlier

-- how many bytes its operation has moved so far, of one that goes on in parts, as it last would have had to wait; what has a completion of its own counts no more
abbrev pub moved : List Fact → ℤ
moved [] = pos 0
moved (Waits so_far ∷ earlier) = so_far
moved (WentOn ∷ earlier) = pos 0
moved (_ ∷ earlier) = moved earlier

-- what it ends with that a cancel has found: how many bytes it has moved, if it has moved any, or -125 (ECANCELED). io_uring_enter(2), IORING_OP_ASYNC_CANCEL; that bytes are told is what Linux 6.18 was seen to do
abbrev pub by_cancel : ℤ → ℤ
by_cancel so_far = if int_lt (pos 0) so_far then so_far else error 125

abbrev pub end_by : Option ℤ → Bool → ℤ → Option ℤ
end_by (Some res) cancelled so_far = Some res
end_by None cancelled so_far = if cancelled then Some (by_cancel so_far) else None

-- what it ends with, once it may: its result, or what a cancel leaves that found it before
abbrev pub ending : List Fact → Option ℤ
ending log = end_by (result log) (is_cancelled log) (moved log)

-- what the completion of its end shows; none before
abbrev pub shown : List Fact → Option ℤ
shown log = if has_ended log then ending log else None

-- whether its completion counts for timeouts with a count: not that of a timeout which its time or its count has ended; but that of one which was removed, cancelled, or never started. What Linux 6.18 does
abbrev pub counts : List Fact → Bool → Bool
counts log is_timeout = not (is_timeout && has_started log && not (is_cancelled log))

-- it has started, hasn't ended, and isn't being carried out
abbrev pub may_go_on : List Fact → Bool
may_go_on log = has_started log && not (has_ended log) && not (is_tried log)

abbrev pub act_by : Bool → Option ℤ → Act
act_by false end = Nothing
act_by true (Some res) = End res
act_by true None = CarryOut

-- what is to be done when it goes on: it ends if it is known with what, else its operation is carried out
abbrev pub act : List Fact → Act
act log = act_by (may_go_on log) (ending log)

abbrev pub is_carrying_out : Act → Bool
is_carrying_out CarryOut = true
is_carrying_out _ = false

abbrev pub is_known : Option ℤ → Bool
is_known (Some _) = true
is_known None = false

abbrev pub is_ending : Act → Bool
is_ending (End _) = true
is_ending _ = false

-- whether this can have happened to one that hasn't ended
abbrev pub can_be : List Fact → Fact → Bool
can_be log Started = not (has_started log)
can_be log (Dropped _) = not (has_started log)
can_be log Cancelled = true
can_be log Tried = is_carrying_out (act log)
can_be log (Waits _) = is_tried log
can_be log WentOn = is_tried log
can_be log (Done _) = is_tried log
can_be log (Notified _) = is_known (ending log)
can_be log Ended = is_ending (act log)

-- whether this can have happened: nothing does after its end
abbrev pub fits : List Fact → Fact → Bool
fits log fact = not (has_ended log) && can_be log fact

-- what has happened once it was said what is to be done
abbrev pub after_act : List Fact → List Fact
after_act log = if is_carrying_out (act log) then Tried ∷ log else log

-- a run: each thing can have happened after those before it
abbrev pub is_run : List Fact → Bool
is_run [] = true
is_run (fact ∷ earlier) = fits earlier fact && is_run earlier

abbrev pub option_of : Bool → ℤ → Option ℤ
option_of known res = if known then Some res else None

-- what the second completion of a send without copies shows, which says that its memory is free: 0, or -2^31 (IORING_NOTIF_USAGE_ZC_COPIED) where its entry asks whether it was copied, by IORING_SEND_ZC_REPORT_USAGE (8). One that a cancel has found has both too. None, so that its first has no MORE, if no completion may be posted before its end. io_uring_enter(2), IORING_OP_SEND_ZC; when there is none is our own rule
abbrev pub notice_of : Submission → (may_post : Bool) → Option ℤ
notice_of e may_post =
    if not may_post then None else
    Some (if has_some e.ioprio 8 then negsuc 2147483647 else pos 0)

-- glue: what is kept is that of a request to which this has happened. A result that isn't known is 0, for who reads the field
pub record KeepsCourse (log : List Fact) (c : Course) : Type 0 where
  pub started : c.has_started ≡ has_started log
  pub cancelled : c.is_cancelled ≡ is_cancelled log
  pub tried : c.is_tried ≡ is_tried log
  pub ended : c.has_ended ≡ has_ended log
  pub res : c.res ≡ unwrap_or (result log) (pos 0)
  pub result : option_of c.has_result c.res ≡ result log
  pub moved : c.moved ≡ moved log
