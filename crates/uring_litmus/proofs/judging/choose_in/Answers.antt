use Rattle.uring_litmus.proofs.Verdicts.{place_low, chooses, misses}
use Rattle.uring_litmus.proofs.judging.choose_in.Goals as goal

pub taken-requires : goal.taken-requires
taken-requires g c =
    place_low c.args.form c.in_ok-found.found.endings.items c.args.number c.in-Ok-Ok.field-0 c.in-Ok-Ok.at (rw c.in-Ok-Ok.is at c.in-Ok-Ok.field-0-is) (rw (c.as_slice.ensures.value, c.in-Ok-Ok.is) at c.place_of-place.ensures.place)

pub returns-in-Ok-Ok-clause-chooses : goal.returns-in-Ok-Ok-clause-chooses
returns-in-Ok-Ok-clause-chooses g c =
    chooses c.args.form c.args.setup.now c.args.number c.in_ok-found.found.endings.items c.in_ok-found.found.is_all c.in-Ok-Ok.field-0 c.in-Ok-Ok.at c.taken.result _ _ c.in_ok-found.ensures.found (rw c.in-Ok-Ok.is at c.in-Ok-Ok.field-0-is) (rw (c.as_slice.ensures.value, c.in-Ok-Ok.is) at c.place_of-place.ensures.place) c.taken.ensures

pub returns-in-Ok-Err-clause-chooses : goal.returns-in-Ok-Err-clause-chooses
returns-in-Ok-Err-clause-chooses g c =
    misses c.args.form c.args.setup.now c.args.number c.in_ok-found.found.endings.items c.in_ok-found.found.is_all c.in-Ok-Err.field-0 c.in-Ok-Err.count _ _ c.in_ok-found.ensures.found (rw c.in-Ok-Err.is at c.in-Ok-Err.field-0-is) (rw (c.as_slice.ensures.value, c.in-Ok-Err.is) at c.place_of-place.ensures.place)
