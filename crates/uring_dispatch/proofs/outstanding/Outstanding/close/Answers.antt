use Rattle.uring_dispatch.proofs.Accepts.{cut_held, cut_sound}
use Rattle.uring_dispatch.proofs.AcceptsListed.{cut_listed}
use Rattle.uring_dispatch.proofs.outstanding.Outstanding.close.Goals as goal

pub invariant_of-self : goal.invariant_of-self
invariant_of-self c =
    ((rw c.close.ensures (cut_sound _ _ c.args.self.now.grouped.fits), tt), (rw c.close.ensures (cut_listed _ _ _ c.args.self.now.told), (c.args.self.now.found, tt)))

pub returns-clause-shows : goal.returns-clause-shows
returns-clause-shows c = λ r h.
    rw c.close.ensures (cut_held _ _ r h)
