-- What holds of every call of io_uring_register(2). DESCRIPTION.
use Rattle.std.specs.Prelude.{◌≡◌, ℕ, pos, true, false}
use Rattle.uring_register.specs.declared.rings.restrictions.Restriction.{Restriction}
use Rattle.uring_register.specs.declared.calls.call.Caller.{Caller}
use Rattle.uring_register.specs.Rings.Restricting.{is_row}
use Rattle.uring_register.specs.Calls.Calling.{call_of, is_call, calling_fault}

-- a call that is served can be allowed by a row of restrictions, which is of kind 0
abbrev pub CanBeAllowed : Type 0
CanBeAllowed = (row : Restriction) → row.kind ≡ 0 → is_call (call_of row.number) ≡ true → is_row row ≡ true

-- and is made only by a thread that may call, on a ring that allows it
abbrev pub IsMadeByRight : Type 0
IsMadeByRight = (code : ℕ) (c : Caller) → calling_fault code c ≡ pos 0
    → (c.is_open ≡ true) × (c.is_ring ≡ true) × (c.is_another ≡ false) × (c.is_allowed ≡ true) × (is_call (call_of code) ≡ true)
