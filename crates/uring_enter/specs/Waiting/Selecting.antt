-- poll(2) by select(2). select(2), Correspondence between select() and poll() notifications; but where our own rule is named.
use Rattle.std.specs.Prelude.{ℕ, Bool, not, if◌then◌else◌}
use Rattle.std.specs.Int.RustNames.{bit_and, bit_or}
use Rattle.uring_operations.specs.Entries.Clocks.{has_some}
use Rattle.uring_enter.specs.declared.waiting.selecting.Sets.{Sets}

-- POLLIN (1), POLLRDNORM (64), POLLRDBAND (128) and POLLRDHUP (8192) are asked as what can be read, POLLOUT (4), POLLWRNORM (256) and POLLWRBAND (512) as what can be written, and POLLPRI (2) as an exceptional condition
abbrev pub select_sets : (events : ℕ) → Sets
select_sets events = record {
  is_readable = has_some events 8385;
  is_writable = has_some events 772;
  is_urgent = has_some events 2;
}

-- a set doesn't say of which event it tells: so of the likely ones that are asked for, and of the rest only where none of those is. Our own rule
abbrev pub told_by : (is_in : Bool) → (events likely rest : ℕ) → ℕ
told_by is_in events likely rest =
    if not is_in then 0 else
    if has_some events likely then bit_and events likely else bit_and events rest

-- POLLIN and POLLRDNORM are likely of what can be read, POLLOUT and POLLWRNORM of what can be written. What isn't open shows POLLNVAL (32), as by poll(2)
abbrev pub told_by_select : (events : ℕ) → (is_open : Bool) → Sets → ℕ
told_by_select events is_open found =
    if not is_open then 32 else
    bit_or (bit_or (told_by found.is_readable events 65 8320) (told_by found.is_writable events 260 512)) (told_by found.is_urgent events 2 0)
