-- What is done once the operation of a request was carried out, and may have come to nothing yet. Our own rules.
use Rattle.std.specs.Prelude.{ℕ, Bool, not}
use Rattle.uring_enter.specs.declared.going_on.tried.AfterTry.{AfterTry}

pub data TryDuty : Type 0 where
  LooksAfresh : TryDuty
  Waits : TryDuty
  AsksGoingOn : TryDuty

-- they are done by rising places: others are looked at again before it is known what it came to, as whatever follows may end it
abbrev pub try_place : TryDuty → ℕ
try_place LooksAfresh = 0
try_place Waits = 1
try_place AsksGoingOn = 2

abbrev pub is_try_due : AfterTry → TryDuty → Bool
is_try_due d LooksAfresh = d.looks_afresh
is_try_due d Waits = d.waits
is_try_due d AsksGoingOn = d.asks_going_on

-- an operation that can make others ready has them looked at again whatever it came to: one that would have to wait for more may have moved a part. What would have to wait has no result, by which one goes on: so only what came to one is asked
abbrev pub after_try : (can_make_ready would_wait : Bool) → AfterTry
after_try can_make_ready would_wait = record {
  looks_afresh = can_make_ready;
  waits = would_wait;
  asks_going_on = not would_wait;
}
