-- The law of the calls of io_uring_register(2).
use Rattle.std.proofs.Common.{◌≡◌, pos, negsuc, Bool, true, false, not, if◌then◌else◌, refl}
use Rattle.std.specs.Prelude.{nat_le}
use Rattle.std.specs.Ordering.{int_eq}
use Rattle.uring_entry.specs.Errors.{error}
use Rattle.uring_register.specs.Calls.Calling.{call_of, is_call}
use Rattle.uring_register.specs.Calls.CallingLaws.{IsMadeByRight}

-- what is so where there is no fault
made : (past bare there ring another allowed served : Bool)
    → (if past then error 22 else if bare then error 22 else if not there then error 9 else if not ring then error 95 else if another then error 17 else if not allowed then error 13 else if served then pos 0 else error 22)
    ≡ pos 0
    → (there ≡ true) × (ring ≡ true) × (another ≡ false) × (allowed ≡ true) × (served ≡ true)
made true bare there ring another allowed served e = cc
made false true there ring another allowed served e = cc
made false false false ring another allowed served e = cc
made false false true false another allowed served e = cc
made false false true true true allowed served e = cc
made false false true true false false served e = cc
made false false true true false true false e = cc
made false false true true false true true e = (refl, refl, refl, refl, refl)

pub is_made_by_right : IsMadeByRight
is_made_by_right code c e =
    made (nat_le 36 code) (int_eq c.fd (negsuc 0)) c.is_open c.is_ring c.is_another c.is_allowed (is_call (call_of code)) e
