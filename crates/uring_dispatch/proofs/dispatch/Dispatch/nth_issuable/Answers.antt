use Rattle.uring_dispatch.proofs.Views.{held_from}
use Rattle.uring_dispatch.proofs.dispatch.Dispatch.nth_issuable.Goals as goal

pub returns : goal.returns
returns c = λ r s. c.nth.ensures r (held_from _ _ c.self.inside.outstanding.grouped.groups _ _ r c.self.view_is s)
