-- In which steps a ring's memory is told what was taken, and what the application has reaped is heard: a set has the bit 2 to the power of its place of each that is done, and they are done by rising places. io_uring(7), but where our own rule is named.
use Rattle.std.specs.Prelude.{ℕ, ◌^◌, Bool, true, false, ◌||◌, nat_lt, if◌then◌else◌}
use Rattle.std.specs.Int.RustNames.{bit_or}
use Rattle.uring_enter.specs.declared.completions.storing.Occasion.{Occasion}
use Rattle.uring_enter.specs.declared.completions.storing.Occasion.TheVariants.{Call, Step, Posting}

-- the bit of the step of a place
abbrev pub step_bit : ℕ → (is_done : Bool) → ℕ
step_bit place is_done = if is_done then 2 ^ place else 0

-- once the core has taken what a call has staged, how many words named no slot is stored before the head: whoever sees the head sees that. Nothing that was taken goes on before: a completion that is seen is that of an entry which the head says was taken
abbrev pub taken_steps : ℕ
taken_steps = bit_or (bit_or (step_bit 0 true) (step_bit 1 true)) (step_bit 2 true)

-- what has overflowed is asked for by a call that gets events (IORING_ENTER_GETEVENTS), where it hears the application, and by none where something has gone on in it, or a completion may be posted: there it is heard what was reaped, by which there is room for what comes, and what has overflowed before waits for a call. io_uring_enter(2); else our own rule
abbrev pub asks_overflow : Occasion → Bool
asks_overflow (Call asks) = asks
asks_overflow Step = false
asks_overflow Posting = false

-- the head is heard where something was reaped, or what has overflowed is asked for. Then what has ended is shown before the core is told of the head, since the order of what is shown is that of the core's tail, which room moves on; then the core is told what was reaped; and what has overflowed is moved into the room. Our own rule
abbrev pub heard_steps : ℕ → (is_asked : Bool) → ℕ
heard_steps reaped is_asked =
    let is_any = nat_lt 0 reaped || is_asked in
    bit_or (bit_or (step_bit 0 is_any) (step_bit 1 (nat_lt 0 reaped))) (step_bit 2 is_any)

-- the ring is shown anew only where something has moved into it: else the tail and the flags are as they were shown
abbrev pub shows_again : ℕ → Bool
shows_again moved = nat_lt 0 moved
