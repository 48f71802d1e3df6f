use Rattle.std.proofs.Common.{arith, ◌<◌, length, sym, ◌∙◌}
use Rattle.uring_volume.specs.Events.{is_safe}
use Rattle.uring_volume.proofs.Seeking.{one_is}
use Rattle.uring_volume.proofs.IssuedWays.{ref_issued}
use Rattle.uring_volume.proofs.ways.has_safe.Goals as goal

pub returns-then-is_safe : goal.returns-then-is_safe
returns-then-is_safe c =
    let within : c.loop-piece.piece-index < length c.args.rest.now = omega arith in
    sym (one_is (λ p. p.now) (λ w. is_safe c.args.past.now.history w) c.args.rest.now c.loop-piece.piece-index c.piece-item.result within c.piece-item.is (sym c.is_safe.ensures ∙ c.if-is_safe.true))

pub is_safe-requires : goal.is_safe-requires
is_safe-requires c = ref_issued (λ p. p.now) c.args.past.now.history c.args.rest.now c.loop-piece.piece-index c.piece-item.result c.requires c.loop-piece-test.true c.piece-item.is
