-- What a send without copies shows that its chain cancels before it is carried out. io_uring_enter(2), IORING_OP_SEND_ZC; what Linux 6.18 does.
use Rattle.std.specs.Prelude.{ℤ, Bool, ◌&&◌, if◌then◌else◌}
use Rattle.std.specs.Ordering.{int_eq}
use Rattle.uring_entry.specs.Errors.{error}
use Rattle.uring_enter.specs.declared.completions.shot.Part.{Part}
use Rattle.uring_enter.specs.declared.completions.shot.Part.TheVariants.{Own, Sent}

-- whether it has a notice all the same, that its memory is free, after that of its end: where it ends so (125, ECANCELED), whether or not that one is shown
abbrev pub notifies_unsent : (is_zero_copy : Bool) → ℤ → Bool
notifies_unsent is_zero_copy res = is_zero_copy && int_eq res (error 125)

-- what the completion of its end tells: that another follows, but only where it begins its chain, and so a member after it has a fault
abbrev pub part_unsent : (is_linked : Bool) → Part
part_unsent is_linked = if is_linked then Own else Sent
