use Rattle.std.proofs.Common.{◌∙◌}
use Rattle.uring_rings.proofs.Counts.{cell_by_mask}
use Rattle.uring_rings.proofs.sq.Sq.cell.Goals as goal

pub returns-clause-value : goal.returns-clause-value
returns-clause-value c = rw (← c.self.view_is) (c.cell.ensures ∙ cell_by_mask c.args.index.0 c.self.inside.size c.self.invariant.power)
