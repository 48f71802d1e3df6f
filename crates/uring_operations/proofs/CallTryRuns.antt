-- The laws of what an operation of sockets ends with.
use Rattle.std.proofs.Common.{◌≡◌, ℤ, pos, negsuc, Bool, true, false, not, ◌&&◌, ◌||◌, ◌==◌, Some, None, ◌⊎◌, inl, inr, if◌then◌else◌, refl, sym, ap, ◌∙◌}
use Rattle.std.proofs.lemmas.Bool.{false≢true}
use Rattle.std.specs.Ordering.{int_eq}
use Rattle.uring_operations.specs.declared.entries.submission.Submission.{Submission}
use Rattle.uring_operations.specs.declared.calls.waiting_call.Call.{Call}
use Rattle.uring_operations.specs.declared.calls.waiting_call.Doing.TheVariants.{Calls, Polls, AsksWill, AsksType, AsksError}
use Rattle.uring_operations.specs.declared.calls.waiting_call.Turn.{Turn}
use Rattle.uring_operations.specs.declared.calls.waiting_call.Turn.TheVariants.{Does, Waits, Ends, EndsWithDone}
use Rattle.uring_operations.specs.Entries.Needs.{is_of_sockets, takes_errors}
use Rattle.uring_operations.specs.Requests.Readiness.{has_message_flags}
use Rattle.uring_operations.specs.Calls.CallTries.{accepts_on, polls_first, is_asked, heeds_will, after_vain, is_connected, is_repeated, waits_for_all, would_wait, ends_with, after, after_call, after_connect, after_message, EndsWithWhatCame, LosesNoBytes}
use Rattle.uring_entry.specs.Errors.{error}

abbrev end_in : Turn → ℤ
end_in (Ends res) = res
end_in _ = pos 0

abbrev has_end : Turn → Bool
has_end (Ends _) = true
has_end _ = false

with_end : (moved : Bool) (res end : ℤ) → (if moved then EndsWithDone else Ends res) ≡ Ends end → end ≡ res
with_end true res end is = absurd (false≢true (ap has_end is))
with_end false res end is = sym (ap end_in is)

would_end : (asked moved message : Bool) (end : ℤ)
    → (if asked then (if moved then EndsWithDone else Ends (error 11)) else if message then Does Polls else Does AsksWill) ≡ Ends end
    → end ≡ error 11
would_end true moved message end is = with_end moved (error 11) end is
would_end false moved true end is = absurd (false≢true (ap has_end is))
would_end false moved false end is = absurd (false≢true (ap has_end is))

no_end : (one : Bool) (two three : Turn) (end : ℤ) → has_end two ≡ false → has_end three ≡ false
    → (if one then two else three) ≡ Ends end → ⊥
no_end true two three end first second is = false≢true (sym first ∙ ap has_end is)
no_end false two three end first second is = false≢true (sym second ∙ ap has_end is)

message_end : (e : Submission) (c : Call) (res end : ℤ) → after_message e c res ≡ Ends end → end ≡ res
message_end e c (negsuc below) end is = with_end (has_message_flags e.opcode && not (c.done == 0)) (negsuc below) end is
message_end e c (pos n) end is = absurd (no_end (not (n == 0) && waits_for_all e c) (Does AsksType) EndsWithDone end refl refl is)

call_end : (connect repeated waits connected eleven message : Bool) (would later : Turn) (res end : ℤ)
    → (would ≡ Ends end → end ≡ error 11) → (later ≡ Ends end → end ≡ res)
    → (if connect then (if repeated then Does Calls else if eleven then Does AsksWill else if waits then Waits else if connected then Ends (pos 0) else Ends res) else if eleven then would else if message then later else Ends res) ≡ Ends end
    → (end ≡ res) ⊎ ((end ≡ error 11) ⊎ ((end ≡ pos 0) × ((connect ≡ true) × (connected ≡ true))))
call_end true true waits connected eleven message would later res end one two is = absurd (false≢true (ap has_end is))
call_end true false waits connected true message would later res end one two is = absurd (false≢true (ap has_end is))
call_end true false true connected false message would later res end one two is = absurd (false≢true (ap has_end is))
call_end true false false true false message would later res end one two is = inr (inr (sym (ap end_in is), (refl, refl)))
call_end true false false false false message would later res end one two is = inl (sym (ap end_in is))
call_end false repeated waits connected true message would later res end one two is = inr (inl (one is))
call_end false repeated waits connected false true would later res end one two is = inl (two is)
call_end false repeated waits connected false false would later res end one two is = inl (sym (ap end_in is))

error_end : (goes_on : Bool) (res end : ℤ) → (if goes_on then Does Calls else Ends res) ≡ Ends end → end ≡ res
error_end true res end is = absurd (false≢true (ap has_end is))
error_end false res end is = sym (ap end_in is)

vain_end : (errors heeds moved : Bool) (end : ℤ)
    → (if errors then (if moved then EndsWithDone else Ends (error 11)) else if heeds then Does AsksWill else Waits) ≡ Ends end
    → end ≡ error 11
vain_end true heeds moved end is = with_end moved (error 11) end is
vain_end false true moved end is = absurd (false≢true (ap has_end is))
vain_end false false moved end is = absurd (false≢true (ap has_end is))

poll_end : (accept ready connect : Bool) (vain : Turn) (end : ℤ) → (vain ≡ Ends end → end ≡ error 11)
    → (if accept then (if ready then Does Calls else Does AsksWill) else if not ready then Waits else if connect then Does AsksError else vain) ≡ Ends end
    → end ≡ error 11
poll_end true ready connect vain end one is = absurd (no_end ready (Does Calls) (Does AsksWill) end refl refl is)
poll_end false false connect vain end one is = absurd (false≢true (ap has_end is))
poll_end false true true vain end one is = absurd (false≢true (ap has_end is))
poll_end false true false vain end one is = one is

will_end : (waits moved : Bool) (end : ℤ) → (if waits then Waits else if moved then EndsWithDone else Ends (error 11)) ≡ Ends end
    → end ≡ error 11
will_end true moved end is = absurd (false≢true (ap has_end is))
will_end false moved end is = with_end moved (error 11) end is

pub ends_with_what_came : EndsWithWhatCame
ends_with_what_came e c None res end is = absurd (no_end (polls_first e c) (Does Polls) (Does Calls) end refl refl is)
ends_with_what_came e c (Some Calls) res end is =
    call_end (e.opcode == 16) (is_repeated c res) (int_eq res (error 115) || c.has_begun && int_eq res (error 114)) (is_connected c res) (int_eq res (error 11)) (has_message_flags e.opcode) (would_wait e c) (after_message e c res) res end
    (λ would. would_end (is_asked e) (has_message_flags e.opcode && not (c.done == 0)) (has_message_flags e.opcode) end would)
    (λ later. message_end e c res end later) is
ends_with_what_came e c (Some Polls) res end is =
    inr (inl (poll_end (e.opcode == 13) (not (int_eq res (pos 0))) (e.opcode == 16) (after_vain e c) end
    (λ vain. vain_end (takes_errors e) (heeds_will e.opcode) (has_message_flags e.opcode && not (c.done == 0)) end vain) is))
ends_with_what_came e c (Some AsksWill) res end is =
    inr (inl (will_end (int_eq res (pos 0) || accepts_on e) (has_message_flags e.opcode && not (c.done == 0)) end is))
ends_with_what_came e c (Some AsksType) res end is = absurd (no_end (int_eq res (pos 0)) EndsWithDone Waits end refl refl is)
ends_with_what_came e c (Some AsksError) res end is = inl (error_end (e.opcode == 16 && int_eq res (pos 0)) res end is)

-- a message is no connect
no_connect : (sockets accept connect : Bool) → sockets && not accept && not connect ≡ true → connect ≡ false
no_connect true true connect is = absurd (false≢true is)
no_connect true false true is = absurd (false≢true is)
no_connect true false false is = refl
no_connect false accept connect is = absurd (false≢true is)

-- one that has moved something ends with that
moved_end : (message zero : Bool) (res : ℤ) → message ≡ true → zero ≡ false
    → has_end (if message && not zero then EndsWithDone else Ends res) ≡ false
moved_end true false res one two = refl
moved_end true true res one two = absurd (false≢true (sym two))
moved_end false zero res one two = absurd (false≢true one)

moved_would : (asked message zero : Bool) → message ≡ true → zero ≡ false
    → has_end (if asked then (if message && not zero then EndsWithDone else Ends (error 11)) else if message then Does Polls else Does AsksWill) ≡ false
moved_would true message zero one two = moved_end message zero (error 11) one two
moved_would false true zero one two = refl
moved_would false false zero one two = refl

moved_vain : (errors heeds message zero : Bool) → message ≡ true → zero ≡ false
    → has_end (if errors then (if message && not zero then EndsWithDone else Ends (error 11)) else if heeds then Does AsksWill else Waits) ≡ false
moved_vain true heeds message zero one two = moved_end message zero (error 11) one two
moved_vain false true message zero one two = refl
moved_vain false false message zero one two = refl

moved_poll : (accept ready connect : Bool) (vain : Turn) → has_end vain ≡ false
    → has_end (if accept then (if ready then Does Calls else Does AsksWill) else if not ready then Waits else if connect then Does AsksError else vain) ≡ false
moved_poll true true connect vain one = refl
moved_poll true false connect vain one = refl
moved_poll false false connect vain one = refl
moved_poll false true true vain one = refl
moved_poll false true false vain one = one

chosen_end : (one : Bool) (two three : Turn) → has_end two ≡ false → has_end three ≡ false
    → has_end (if one then two else three) ≡ false
chosen_end true two three first second = first
chosen_end false two three first second = second

moved_message : (e : Submission) (c : Call) (res : ℤ) → has_message_flags e.opcode ≡ true → c.done == 0 ≡ false
    → has_end (after_message e c res) ≡ false
moved_message e c (negsuc below) one two = moved_end (has_message_flags e.opcode) (c.done == 0) (negsuc below) one two
moved_message e c (pos n) one two = chosen_end (not (n == 0) && waits_for_all e c) (Does AsksType) EndsWithDone refl refl

moved_call : (connect eleven message : Bool) (by would later : Turn) (res : ℤ) → connect ≡ false → message ≡ true
    → has_end would ≡ false → has_end later ≡ false
    → has_end (if connect then by else if eleven then would else if message then later else Ends res) ≡ false
moved_call true eleven message by would later res first is one two = absurd (false≢true (sym first))
moved_call false true message by would later res first is one two = one
moved_call false false true by would later res first is one two = two
moved_call false false false by would later res first is one two = absurd (false≢true is)

ends_not : (turn : Turn) (end : ℤ) → has_end turn ≡ false → turn ≡ Ends end → ⊥
ends_not turn end without is = false≢true (sym without ∙ ap has_end is)

pub loses_no_bytes : LosesNoBytes
loses_no_bytes e c None res end message moved is = absurd (no_end (polls_first e c) (Does Polls) (Does Calls) end refl refl is)
loses_no_bytes e c (Some Calls) res end message moved is =
    absurd (ends_not (after_call e c res) end (moved_call (e.opcode == 16) (int_eq res (error 11)) (has_message_flags e.opcode)
    (after_connect c res) (would_wait e c) (after_message e c res) res
    (no_connect (is_of_sockets e.opcode) (e.opcode == 13) (e.opcode == 16) message) message
    (moved_would (is_asked e) (has_message_flags e.opcode) (c.done == 0) message moved) (moved_message e c res message moved)) is)
loses_no_bytes e c (Some Polls) res end message moved is =
    absurd (ends_not (after e c Polls res) end (moved_poll (e.opcode == 13) (not (int_eq res (pos 0))) (e.opcode == 16) (after_vain e c)
    (moved_vain (takes_errors e) (heeds_will e.opcode) (has_message_flags e.opcode) (c.done == 0) message moved)) is)
loses_no_bytes e c (Some AsksWill) res end message moved is =
    absurd (ends_not (after e c AsksWill res) end (chosen_end (int_eq res (pos 0) || accepts_on e) Waits (ends_with e c (error 11)) refl
    (moved_end (has_message_flags e.opcode) (c.done == 0) (error 11) message moved)) is)
loses_no_bytes e c (Some AsksType) res end message moved is = absurd (no_end (int_eq res (pos 0)) EndsWithDone Waits end refl refl is)
loses_no_bytes e c (Some AsksError) res end message moved is = refl
