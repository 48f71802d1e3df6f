use Rattle.std.proofs.Common.{◌≡◌, length, arith}
use Rattle.uring_reconstruct.proofs.Common.{HasEndsOf, world}
use Rattle.uring_reconstruct.proofs.Seeing.{descend}
use Rattle.uring_reconstruct.proofs.Adding.{adds_then, ends_kept, accepted_ends}
use Rattle.uring_reconstruct.proofs.ends.add_ends.Goals as goal

pub add_ends_of-requires : goal.add_ends_of-requires
add_ends_of-requires g c = λ h fits. (c.counts-accepted.ensures h fits).accepted

pub loop-place-preserved : goal.loop-place-preserved
loop-place-preserved g c = record {
  adds = adds_then c.args.core.now c.args.wanted.now c.args.next.now.items c.loop-place.next.items c.add_ends_of.new.next.items c.loop-place.invariant.adds c.in_ok-add_ends_of.ensures.adds;
  all = λ seen h n at low high.
      descend (λ k. HasEndsOf c.args.core.now.setup seen h k c.add_ends_of.new.next.items) c.counts-accepted.result.accepted c.loop-place.place n high
      (λ before. ends_kept c.args.core.now.setup seen h n c.loop-place.next.items c.add_ends_of.new.next.items c.in_ok-add_ends_of.ensures.adds.kept (c.loop-place.invariant.all seen h n at low before))
      (c.in_ok-add_ends_of.ensures.all seen h at);
}

pub returns-clause-all : goal.returns-clause-all
returns-clause-all g c = λ seen h n at.
    let many : c.counts-accepted.result.accepted ≡ length (world c.args.core.now.setup h).requests.accepted = (c.counts-accepted.ensures h at.fits).accepted in
    accepted_ends c.args.core.now.setup seen h n c.loop-place.next.items at.fits.lawful (λ low. c.loop-place.invariant.all seen h n at (omega arith) (omega arith))
