use Rattle.std.proofs.Common.{◌≡◌, false, None}
use Rattle.uring_reconstruct.proofs.Common.{posts, world}
use Rattle.uring_reconstruct.proofs.Adding.{adds_then, counts_all}
use Rattle.uring_reconstruct.proofs.issued.add_skipped.Goals as goal

pub returns-clause-adds : goal.returns-clause-adds
returns-clause-adds g c = λ wanted.
    adds_then c.args.core.now wanted c.args.next.now.items c.add_counts.new.next.items c.add_quiet.new.next.items (c.in_ok-add_counts.ensures.adds wanted) (c.in_ok-add_quiet.ensures.adds wanted)

pub returns-clause-some : goal.returns-clause-some
returns-clause-some g c = λ manual all count few skips h fits there quiet.
    counts_all (λ x. posts c.args.core.now.setup.linux (world c.args.core.now.setup h).requests c.args.number x ≡ false) c.args.number c.add_counts.new.next.items c.add_quiet.new.next.items c.args.accepted
    (c.in_ok-add_quiet.ensures.adds None).kept
    (λ below low so. c.in_ok-add_counts.ensures.some manual all below low h fits there so)
    (c.in_ok-add_quiet.ensures.added h fits there) count few quiet
