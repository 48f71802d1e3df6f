use Rattle.std.proofs.Common.{◌≡◌, reverse, take, drop, Some}
use Rattle.uring_register.specs.Rings.Restricting as spec
use Rattle.uring_register.proofs.rings.restrictions.Restrictions.register.Given as goal

abbrev pub invariant-loop-row : goal.invariant-loop-row
invariant-loop-row l =
    spec.KeepsRestrictions (Some (reverse (take l.row-index l.rows))) l.made
    × (spec.list_fault (drop l.row-index l.rows) ≡ spec.list_fault l.rows)
