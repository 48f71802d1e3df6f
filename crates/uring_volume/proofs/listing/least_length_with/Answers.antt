use Rattle.std.proofs.Common.{◌≡◌, ◌||◌, map, sym, ap, ◌∙◌}
use Rattle.uring_volume.specs.Ways.{goes_with, is_needed}
use Rattle.uring_volume.proofs.Common.{or_left}
use Rattle.uring_volume.proofs.Seeking.{flag_is, kept_more}
use Rattle.uring_volume.proofs.listing.least_length_with.Goals as goal
use Rattle.uring_volume.proofs.listing.least_length_with.Goals.{then-goes_with, else-goes_with}

pub loop-i-preserved : goal.loop-i-preserved
loop-i-preserved c =
    let h = c.args.past.now.history in
    let x = c.index-pieces-i.result in
    let needed = is_needed h (map (λ p. p.now) c.args.pieces.now) x.now in
    let left : c.if-goes_with.is_left ≡ (goes_with h c.args.n x.now || needed) = elim c.if-goes_with.branch [
      | then-goes_with w ↦ w.is_left-is ∙ w.if-goes_with.true ∙ sym (or_left _ needed (sym c.goes_with.ensures ∙ w.if-goes_with.true))
      | else-goes_with w ↦
          flag_is (λ p. p.now) (is_needed h (map (λ p. p.now) c.args.pieces.now)) c.args.pieces.now c.args.needed.now c.loop-i.i x c.if-goes_with.is_left _ c.loop-i-test.true c.requires c.index-pieces-i.is w.is_left-is
          ∙ sym (ap (λ b. b || needed) (sym c.goes_with.ensures ∙ w.if-goes_with.false))
    ] in
    kept_more (λ p. p.now) (λ m. goes_with h c.args.n m || is_needed h (map (λ p. p.now) c.args.pieces.now) m) c.args.pieces.now c.loop-i.i x c.loop-i.len c.longer_if-len.result c.if-goes_with.is_left c.loop-i-test.true c.index-pieces-i.is left c.longer_if-len.ensures
    ∙ c.loop-i.invariant
