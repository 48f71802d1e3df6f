use Rattle.uring_dispatch.proofs.Views.{held_from}
use Rattle.uring_dispatch.proofs.dispatch.Dispatch.would_find.Goals as goal

pub returns : goal.returns
returns c =
    λ r s. c.would_find.ensures r (held_from _ _ c.self.inside.outstanding.grouped.groups _ _ r c.self.view_is s)
