use Rattle.std.proofs.Common.{sym, refl, ◌∙◌}
use Rattle.uring_ffi_values.proofs.Exits.{log_as, lost_as, tells_lost, tells_no_file, tells_there}
use Rattle.uring_ffi_values.proofs.machines.crash_machine_memory.refusal_of_file.Goals as goal

pub returns-then-is_lost : goal.returns-then-is_lost
returns-then-is_lost c =
    let taken = c.take_full-machine.ensures.taken in
    let told = tells_lost _ _ c.args.fd taken (lost_as _ _ _ _ c.deref.ensures c.is_lost-is_lost.ensures c.if-is_lost.true) in
    record { empty = told.0; lost = told.1; no_file = told.2; results = λ _ _ lost _. lost refl; kept = c.put.ensures ∙ sym taken; there = told.3 }

pub returns-then-not-has_file : goal.returns-then-not-has_file
returns-then-not-has_file c =
    let taken = c.take_full-machine.ensures.taken in
    let told = tells_no_file _ _ c.args.fd taken (lost_as _ _ _ _ c.deref.ensures c.is_lost-is_lost.ensures c.if-is_lost.false) (log_as _ _ _ _ _ _ c.ranges.fd c.deref-2.ensures c.log.ensures c.is_some-has_file.ensures c.if-not-has_file.true) in
    record { empty = told.0; lost = told.1; no_file = told.2; results = λ _ _ _ no_file. no_file refl; kept = c.put.ensures ∙ sym taken; there = told.3 }

pub returns : goal.returns
returns c =
    let taken = c.take_full-machine.ensures.taken in
    let told = tells_there _ _ c.args.fd taken (lost_as _ _ _ _ c.deref.ensures c.is_lost-is_lost.ensures c.if-is_lost.false) (log_as _ _ _ _ _ _ c.ranges.fd c.deref-2.ensures c.log.ensures c.is_some-has_file.ensures c.if-not-has_file.false) in
    record { empty = told.0; lost = told.1; no_file = told.2; results = λ none _ _ _. none refl; kept = c.put.ensures ∙ sym taken; there = told.3 }
