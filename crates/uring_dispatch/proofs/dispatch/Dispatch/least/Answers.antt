use Rattle.uring_dispatch.proofs.Views.{held_from, least_held}
use Rattle.uring_dispatch.proofs.dispatch.Dispatch.least.Goals as goal

pub returns : goal.returns
returns c = λ r s. least_held _ _ r _ c.self.inside.outstanding.grouped.fits (held_from _ _ c.self.inside.outstanding.grouped.groups _ _ r c.self.view_is s) c.least.ensures
