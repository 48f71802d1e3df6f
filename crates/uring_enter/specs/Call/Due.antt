-- What a call does next, after what was replied so far. io_uring_enter(2), DESCRIPTION and RETURN VALUE, but where our own rule is named.
use Rattle.std.specs.Prelude.{ℕ, ℤ, pos, Bool, true, false, not, ◌&&◌, ◌||◌, nat_lt, List, [], ◌∷◌, if◌then◌else◌}
use Rattle.uring_enter.specs.declared.call.asked.Asked.{Asked}
use Rattle.uring_enter.specs.declared.call.asked.Policy.{Policy}
use Rattle.uring_enter.specs.declared.call.asked.Policy.TheVariants.{InOrder, Lazy, ByChoice}
use Rattle.uring_enter.specs.declared.call.command.Command.{Command}
use Rattle.uring_enter.specs.declared.call.command.Command.TheVariants.{Hear, Submit, GoOn, GoOnFully, Sleep, PassTime, Return}
use Rattle.uring_enter.specs.declared.call.reply.Sight.{Sight}
use Rattle.uring_enter.specs.declared.call.reply.Reply.{Reply}
use Rattle.uring_enter.specs.declared.call.reply.Reply.TheVariants.{Heard, WrongHead, Taken, NotTaken, WentOn, Chosen, Stuck, Woken, TimedOut, Interrupted, Endless, Failed, Passed, LeastOver}
use Rattle.uring_entry.specs.Errors.{error}
use Rattle.uring_enter.specs.Call.Replies.{submission, is_none, waits, looks, is_enough}

abbrev pub is_lazy : Policy → Bool
is_lazy Lazy = true
is_lazy _ = false

-- after a call that wakes the thread which takes entries, and gets no events, the application may look at memory alone: so it isn't lazy. Our own rule
abbrev pub policy_of : Policy → Bool → Bool → Policy
policy_of Lazy has_thread gets = if has_thread && not gets then InOrder else Lazy
policy_of policy has_thread gets = policy

-- what is asked of a call on a ring that has such a thread or hasn't, by what the program goes by
abbrev pub on_ring : Asked → (has_thread : Bool) → Asked
on_ring a has_thread = record {
  to_submit = a.to_submit;
  min_complete = a.min_complete;
  cq = a.cq;
  gets = a.gets;
  policy = policy_of a.policy has_thread a.gets;
  may_leave = a.may_leave;
}

-- a request that can be finished as it starts is finished in the same choice, unless something is chosen each time, and of events: then its start is one, and its end another. Our own rule
abbrev pub is_one_choice : Policy → Bool → Bool
is_one_choice ByChoice chooses_events = not chooses_events
is_one_choice _ chooses_events = true

-- going on: in order as far as it can; lazily by one request; and by choice, where it may be chosen that the call ends. Our own rule
abbrev pub go_by : Policy → Bool → Command
go_by InOrder may_end = GoOnFully
go_by Lazy may_end = GoOn false
go_by ByChoice may_end = GoOn may_end

-- what a call returns: how many entries it submitted, or the error for which it submitted none; and what became of its waiting only if there was nothing to submit
abbrev pub returned : List Reply → ℤ → ℤ
returned log outcome = if is_none (submission log) then outcome else submission log

-- the end of a call, with what became of its waiting
abbrev pub ended : List Reply → ℤ → Command
ended log outcome = Return (returned log outcome)

-- a limit or a signal is an error only if there is no completion. What the kernel does
abbrev pub unless_ready : Sight → ℕ → ℤ
unless_ready sight number = if nat_lt 0 sight.ready then pos 0 else error number

-- once its least time is over a call ends if there is a completion, and if it has no limit; else it goes on until there is one, or the limit is over. What Linux 6.18 was seen to do
abbrev pub least_over : List Reply → Sight → Bool → Command
least_over log sight has_limit =
    if nat_lt 0 sight.ready || not has_limit then ended log (unless_ready sight 62) else Hear true

-- a call that waits goes on, and where there is enough it may end, unless it is to leave nothing that can go on; lazily it does. Our own rule
abbrev pub waiting : Asked → List Reply → Sight → Command
waiting a log sight =
    if (is_enough a log sight && a.may_leave) && is_lazy a.policy then ended log (pos 0) else
    go_by a.policy (is_enough a log sight && a.may_leave)

-- a call that looks goes on by one request at least, if there is no completion yet. Our own rule
abbrev pub looking : Asked → List Reply → Bool → Sight → Command
looking a log has_gone sight =
    if (nat_lt 0 sight.ready && a.may_leave) && is_lazy a.policy then ended log (pos 0) else
    go_by a.policy ((has_gone || nat_lt 0 sight.ready) && a.may_leave)

-- a call that nobody waits for goes on as it will; lazily not at all. Our own rule
abbrev pub leaving : Asked → List Reply → Command
leaving a log =
    if a.may_leave && is_lazy a.policy then ended log (pos 0) else go_by a.policy a.may_leave

-- going on, once the entries are submitted
abbrev pub going : Asked → List Reply → Bool → Sight → Command
going a log has_gone sight =
    if waits a log then waiting a log sight else
    if looks a log then looking a log has_gone sight else
    leaving a log

-- nothing can go on: a call that waits hears the application once more, and one that looks in vain lets time pass
abbrev pub stuck : Asked → List Reply → Sight → Command
stuck a log sight =
    if waits a log then Hear true else
    if looks a log && not (nat_lt 0 sight.ready) then PassTime else
    ended log (pos 0)

-- the application was heard: at first the entries are submitted; after a sleep the call goes on; and where nothing could go on it sleeps, unless there is enough
abbrev pub hearing : Asked → List Reply → Sight → Command
hearing a [] sight = Submit
hearing a (Woken ∷ earlier) sight = going a earlier true sight
hearing a (LeastOver seen has_limit ∷ earlier) sight = going a (LeastOver seen has_limit ∷ earlier) true sight
hearing a (last ∷ earlier) sight =
    if is_enough a (last ∷ earlier) sight then ended (last ∷ earlier) (pos 0) else Sleep

-- what a call does next
abbrev pub due : Asked → List Reply → Command
due a [] = Hear a.gets
due a (Heard sight ∷ earlier) = hearing a earlier sight
due a (Taken count sight ∷ earlier) = going a (Taken count sight ∷ earlier) false sight
due a (NotTaken number sight ∷ earlier) = going a (NotTaken number sight ∷ earlier) false sight
due a (WentOn sight ∷ earlier) = going a earlier true sight
due a (Stuck sight ∷ earlier) = stuck a earlier sight
due a (Woken ∷ earlier) = Hear true
due a (Chosen ∷ earlier) = ended earlier (pos 0)
due a (Passed ∷ earlier) = ended earlier (pos 0)
due a (TimedOut sight ∷ earlier) = ended earlier (unless_ready sight 62)
due a (LeastOver sight has_limit ∷ earlier) = least_over earlier sight has_limit
due a (Interrupted sight ∷ earlier) = ended earlier (unless_ready sight 4)
due a (Endless ∷ earlier) = ended earlier (error 35)
due a (Failed number ∷ earlier) = ended earlier (error number)
due a (WrongHead ∷ earlier) = ended earlier (error 77)

-- whether a reply answers what a call wants
abbrev pub is_reply_to : Command → Reply → Bool
is_reply_to (Hear _) (Heard _) = true
is_reply_to (Hear _) WrongHead = true
is_reply_to Submit (Taken _ _) = true
is_reply_to Submit (NotTaken _ _) = true
is_reply_to (GoOn _) (WentOn _) = true
is_reply_to (GoOn _) (Stuck _) = true
is_reply_to (GoOn _) WrongHead = true
is_reply_to (GoOn may_end) Chosen = may_end
is_reply_to GoOnFully (Stuck _) = true
is_reply_to GoOnFully WrongHead = true
is_reply_to Sleep Woken = true
is_reply_to Sleep (TimedOut _) = true
is_reply_to Sleep (LeastOver _ _) = true
is_reply_to Sleep (Interrupted _) = true
is_reply_to Sleep Endless = true
is_reply_to Sleep (Failed _) = true
is_reply_to PassTime Passed = true
is_reply_to _ _ = false
