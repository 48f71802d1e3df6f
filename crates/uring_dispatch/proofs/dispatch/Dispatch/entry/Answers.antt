use Rattle.std.proofs.Common.{sym}
use Rattle.uring_dispatch.proofs.Views.{held_from, entry_none, entry_some}
use Rattle.uring_dispatch.proofs.dispatch.Dispatch.entry.Goals as goal

pub returns-in-Some : goal.returns-in-Some
returns-in-Some c = λ r s. entry_some _ c.self.inside.outstanding.grouped.groups r c.args.n c.in-Some.request.now c.self.inside.outstanding.grouped.fits (held_from _ _ c.self.inside.outstanding.grouped.groups _ _ r c.self.view_is s) (sym c.in-Some.ensures)

pub returns-in-None : goal.returns-in-None
returns-in-None c = λ r s. entry_none _ c.self.inside.outstanding.grouped.groups r c.args.n (held_from _ _ c.self.inside.outstanding.grouped.groups _ _ r c.self.view_is s) (sym c.in-None.ensures)
