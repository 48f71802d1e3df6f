-- A call sleeps only with signals blocked, and nothing but the read of a file is done with signals open.
use Rattle.std.proofs.Common.{◌≡◌, Bool, true, false, not, ◌&&◌, ◌||◌, nat_lt, List, [], ◌∷◌, refl}
use Rattle.uring_enter.proofs.Common.{Asked, Chosen, Endless, Failed, Heard, Interrupted, IsInVain, LeastOver, NotTaken, Reply, Stuck, Taken, TimedOut, WentOn, Woken, WrongHead, false≢true, has_taken_all}
use Rattle.uring_enter.specs.declared.call.reply.Reply.TheVariants.{Passed}
use Rattle.uring_enter.specs.Call.Signals.{blocks_at_begin, SleepsBlocked}
use Rattle.uring_enter.proofs.Running.{sleeps_in_vain}

-- a call that waits may sleep
where_it_waits : (q : Bool) (g : Bool) (t : Bool) (m : Bool) → (g && t && m) ≡ true → (not q || (g && m)) ≡ true
where_it_waits false g t m is = refl
where_it_waits true true true true is = refl
where_it_waits true true true false is = absurd (false≢true is)
where_it_waits true true false m is = absurd (false≢true is)
where_it_waits true false t m is = absurd (false≢true is)

blocked_in_vain : (q : Bool) (a : Asked) (log : List Reply) → IsInVain a log
    → blocks_at_begin q a.gets a.min_complete ≡ true
blocked_in_vain q a [] is = absurd is
blocked_in_vain q a (Heard s ∷ []) is = absurd is
blocked_in_vain q a (Heard s ∷ Stuck t ∷ log) is = where_it_waits q a.gets (has_taken_all a log) (nat_lt 0 a.min_complete) is.0
blocked_in_vain q a (Heard s ∷ Heard t ∷ log) is = absurd is
blocked_in_vain q a (Heard s ∷ Taken n t ∷ log) is = absurd is
blocked_in_vain q a (Heard s ∷ NotTaken n t ∷ log) is = absurd is
blocked_in_vain q a (Heard s ∷ WentOn t ∷ log) is = absurd is
blocked_in_vain q a (Heard s ∷ Woken ∷ log) is = absurd is
blocked_in_vain q a (Heard s ∷ WrongHead ∷ log) is = absurd is
blocked_in_vain q a (Heard s ∷ Chosen ∷ log) is = absurd is
blocked_in_vain q a (Heard s ∷ TimedOut t ∷ log) is = absurd is
blocked_in_vain q a (Heard s ∷ LeastOver t b ∷ log) is = absurd is
blocked_in_vain q a (Heard s ∷ Interrupted t ∷ log) is = absurd is
blocked_in_vain q a (Heard s ∷ Endless ∷ log) is = absurd is
blocked_in_vain q a (Heard s ∷ Failed n ∷ log) is = absurd is
blocked_in_vain q a (Heard s ∷ Passed ∷ log) is = absurd is
blocked_in_vain q a (Taken n t ∷ log) is = absurd is
blocked_in_vain q a (NotTaken n t ∷ log) is = absurd is
blocked_in_vain q a (WentOn t ∷ log) is = absurd is
blocked_in_vain q a (Stuck t ∷ log) is = absurd is
blocked_in_vain q a (Woken ∷ log) is = absurd is
blocked_in_vain q a (WrongHead ∷ log) is = absurd is
blocked_in_vain q a (Chosen ∷ log) is = absurd is
blocked_in_vain q a (TimedOut t ∷ log) is = absurd is
blocked_in_vain q a (LeastOver t b ∷ log) is = absurd is
blocked_in_vain q a (Interrupted t ∷ log) is = absurd is
blocked_in_vain q a (Endless ∷ log) is = absurd is
blocked_in_vain q a (Failed n ∷ log) is = absurd is
blocked_in_vain q a (Passed ∷ log) is = absurd is

pub sleeps_blocked : SleepsBlocked
sleeps_blocked q a log run is = blocked_in_vain q a log (sleeps_in_vain a log run is)
