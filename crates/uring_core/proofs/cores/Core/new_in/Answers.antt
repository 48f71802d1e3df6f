use Rattle.std.proofs.Common.{refl, [], arith, ◌∙◌}
use Rattle.uring_core.proofs.CoreEnds.{new_fits}
use Rattle.uring_core.proofs.cores.Core.new_in.Goals as goal

pub invariant_of-result : goal.invariant_of-result
invariant_of-result g c =
    let size = c.sq.ensures.value in
    let capacity = c.in_ok-held.ensures.capacity in
    (omega arith, (c.sq.ensures.limits, [], new_fits _ c.in_ok-new_in.ensures.shows c.in_ok-new_in-2.ensures.shows c.in_ok-new_in-2.ensures.room c.new.ensures.shows (c.new.ensures.rules ∙ c.is_linux.ensures.value) c.new.ensures.between c.in_ok-held.ensures.items refl refl))

pub returns-clause-fits : goal.returns-clause-fits
returns-clause-fits g c = new_fits _ c.in_ok-new_in.ensures.shows c.in_ok-new_in-2.ensures.shows c.in_ok-new_in-2.ensures.room c.new.ensures.shows (c.new.ensures.rules ∙ c.is_linux.ensures.value) c.new.ensures.between c.in_ok-held.ensures.items refl refl
