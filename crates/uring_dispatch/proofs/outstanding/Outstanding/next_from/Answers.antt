use Rattle.std.proofs.Common.{◌∙◌}
use Rattle.uring_dispatch.proofs.IssuableLemmas.{next_is}
use Rattle.uring_dispatch.proofs.outstanding.Outstanding.next_from.Goals as goal

pub returns : goal.returns
returns c = λ r h.
    c.lesser_of.ensures
    ∙ next_is c.limit-limit.result c.args.self.now.grouped.fits h c.args.self.now.told (c.limit-limit.ensures r h) c.args.n _ _ c.least_from-doomed.ensures c.least_below-ready.ensures
