use Rattle.std.proofs.Common.{◌==◌, sym}
use Rattle.uring_volume.proofs.Common.{eq-eqb}
use Rattle.uring_volume.proofs.Puts.{is_any}
use Rattle.uring_volume.proofs.kept.has_number.Goals as goal

pub returns-in-Some : goal.returns-in-Some
returns-in-Some c =
    sym (is_any (λ k. k.piece.number == c.args.n) c.in-Some.field-0.now c.args.kept.now c.in-Some.ensures.found.0 (eq-eqb c.in-Some.field-0.now.piece.number c.args.n c.in-Some.ensures.found.1))
