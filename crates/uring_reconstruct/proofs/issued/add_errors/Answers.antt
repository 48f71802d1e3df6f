use Rattle.std.proofs.Common.{◌≡◌, false, not, ap, ◌∙◌, None}
use Rattle.uring_reconstruct.proofs.Common.{posts, world}
use Rattle.uring_reconstruct.proofs.Adding.{adds_then, errors_there}
use Rattle.uring_reconstruct.proofs.issued.add_errors.Goals as goal

pub returns-clause-adds : goal.returns-clause-adds
returns-clause-adds g c = λ wanted.
    adds_then c.args.core.now wanted c.args.next.now.items c.add_quiet_if-2.new.next.items c.add_quiet_if-3.new.next.items
    (adds_then c.args.core.now wanted c.args.next.now.items c.add_quiet_if.new.next.items c.add_quiet_if-2.new.next.items (c.in_ok-add_quiet_if.ensures.adds wanted) (c.in_ok-add_quiet_if-2.ensures.adds wanted))
    (c.in_ok-add_quiet_if-3.ensures.adds wanted)

pub returns-clause-all : goal.returns-clause-all
returns-clause-all g c = λ h res fits there quiet linux error.
    errors_there c.args.entry.now c.args.number (λ x. posts c.args.core.now.setup.linux (world c.args.core.now.setup h).requests c.args.number x ≡ false) c.add_quiet_if.new.next.items c.add_quiet_if-2.new.next.items c.add_quiet_if-3.new.next.items
    (c.in_ok-add_quiet_if-2.ensures.adds None).kept (c.in_ok-add_quiet_if-3.ensures.adds None).kept
    (λ faulty. c.in_ok-add_quiet_if.ensures.added (c.is_faulty-is_faulty.ensures ∙ faulty) h fits there)
    (λ drain. c.in_ok-add_quiet_if-2.ensures.added (c.is_drain.ensures ∙ drain) h fits there)
    (λ fine. c.in_ok-add_quiet_if-3.ensures.added (ap not (c.is_faulty-is_faulty.ensures ∙ fine)) h fits there) res quiet error
