use Rattle.std.proofs.Common.{List, sym, subst}
use Rattle.uring_volume.specs.Past.{AreTheWrites}
use Rattle.uring_volume.specs.declared.kept.Kept.{Kept}
use Rattle.uring_volume.proofs.volume.Volume.writes.Goals as goal

pub returns : goal.returns
returns c =
    rw (← c.self.view_is)
    (subst (λ (ks : List Kept). AreTheWrites c.self.inside.past.history c.self.inside.past.next ks) (sym c.kept.ensures)
    (record { pieces = c.is_past.ensures.pieces; stand = c.is_past.ensures.stands }))
